-- What holds of each move of a state by which a step of a thread leaves it holds of what the step leaves.
use Rattle.std.proofs.Common.{ℕ, ◌≡◌, true, false, List, [], ◌∷◌, Option, Some, None, Result, Ok, Err, refl, subst}
use Rattle.law_lists.proofs.Tests.{chosen}
use Rattle.def_profile.specs.declared.answers.TheConstants.{UNWOUND}
use Rattle.def_words.specs.declared.Cap.{Cap}
use Rattle.def_words.specs.declared.Trap.{Trap}
use Rattle.def_words.specs.Authority.{cap_address}
use Rattle.def_words.specs.Traps.{plain_trap}
use Rattle.def_profile.specs.declared.traps.TheConstants.{ILLEGAL_INSTRUCTION}
use Rattle.def_instr.specs.declared.Instr.{Instr}
use Rattle.def_machine.specs.Image.{Image, stack_base}
use Rattle.def_machine.specs.State.{State, Frame, thread}
use Rattle.def_machine.specs.Frames.{ended_with, returned, unwound}
use Rattle.def_step.specs.declared.Next.{Next}
use Rattle.def_step.specs.Checks.{first_failed}
use Rattle.def_step.specs.Handlers.{is_handled, handler_entered, handler_value, return_taken, trap_taken}
use Rattle.def_step.specs.Instructions.{Effect, carried_out, named_by, around, space_of, put_done, instruction_end, operand, trapped, goes_on, after_fetch, executed, fetch_checks, next_at, served}
use Rattle.def_machine.specs.Platform.{Platform}
use Rattle.def_step.specs.Native.{native}
use Rattle.def_step.specs.Operands.{operands_of, class_of}
use Rattle.def_step.specs.Routines.{Ran, Traps, Leaves}
use Rattle.def_events.specs.Leaving.{Left, IfRan}
use Rattle.law_routines.proofs.Cases.{by_next}
use Rattle.law_routines.proofs.Leaving.{Moves, routines_left}

-- ---- the end of a frame, and a trap

-- a trap enters a handler, or unwinds
pub trap_case : (P : State → Type 0) (i : Image) (s : State) (t : ℕ) (why : Trap) (fs : List Frame)
    → ((f : Frame) (gs : List Frame) → fs ≡ f ∷ gs → is_handled i (stack_base i t) (thread s t) f ≡ true → P (handler_entered i s t why f gs))
    → P (unwound i s t fs) → P (trap_taken i s t why fs)
trap_case P i s t why [] enters ends = ends
trap_case P i s t why (f ∷ gs) enters ends = chosen P (is_handled i (stack_base i t) (thread s t) f) (handler_entered i s t why f gs) (unwound i s t (f ∷ gs)) (λ is. enters f gs refl is) (λ not. ends)

-- a handling frame ends with a value, any other returns
pub return_case : (P : State → Type 0) (i : Image) (s : State) (t : ℕ) (fs : List Frame)
    → ((f : Frame) (gs : List Frame) → fs ≡ f ∷ gs → f.handling ≡ true → P (ended_with i s t (handler_value (thread s t)) fs))
    → (((f : Frame) (gs : List Frame) → fs ≡ f ∷ gs → f.handling ≡ false) → P (returned i s t fs)) → P (return_taken i s t fs)
return_case P i s t [] handles back = back (λ f gs e. absurd (let clash : [] ≡ f ∷ gs = e in cc))
return_case P i s t (f ∷ gs) handles back = chosen P f.handling (ended_with i s t (handler_value (thread s t)) (f ∷ gs)) (returned i s t (f ∷ gs)) (λ is. handles f gs refl is)
    (λ not. back (λ h hs e. (let same : f ≡ h = cc in subst (λ (z : Frame). z.handling ≡ false) same not)))

-- ---- a step

-- what an instruction that passes its checks does
abbrev pub IfDone : (State → Type 0) → State → ℕ → Result Effect Trap → Type 0
IfDone P s t (Err why) = Unit {0}
IfDone P s t (Ok d) = P (put_done s t d)

abbrev pub carried : Platform → State → ℕ → Instr → Result Effect Trap
carried b s t k =
    carried_out (class_of k) k (operands_of k).to (operand s t (operands_of k).first) (operand s t (operands_of k).second)
    (named_by b.image (operand s t (operands_of k).first)) (around b s t)

-- a handler that is entered, a frame that ends with a value, one that returns, an instruction, and what routines do
pub record Steps (P : State → Type 0) (b : Platform) (s : State) (t : ℕ) : Type 0 where
  pub handles : (why : Trap) (f : Frame) (fs : List Frame) → (thread s t).frames ≡ f ∷ fs → is_handled b.image (stack_base b.image t) (thread s t) f ≡ true → P (handler_entered b.image s t why f fs)
  pub ends : (value : ℕ) → P (ended_with b.image s t value (thread s t).frames)
  pub back : ((f : Frame) (fs : List Frame) → (thread s t).frames ≡ f ∷ fs → f.handling ≡ false) → P (returned b.image s t (thread s t).frames)
  pub done : (k : Instr) → IfDone P s t (carried b s t k)
  pub moves : Moves (λ z told. P z) b.image s t

module _ (P : State → Type 0) (b : Platform) (s : State) (t : ℕ) (m : Steps P b s t) where
  pub trapped_left : (why : Trap) → P (trapped b s t why).0
  trapped_left why = trap_case P b.image s t why (thread s t).frames (λ f fs frames is. m.handles why f fs frames is) (m.ends UNWOUND)

  result_left : (x : Cap) (r : Result Effect Trap) → IfDone P s t r → P (instruction_end b s t x r).0
  result_left x (Err why) h = trapped_left why
  result_left x (Ok d) h = h

  served_left : (n : ℕ) → IfRan (Left (λ z told. P z)) (native b.image s t n) → P (served b s t (native b.image s t n)).0
  served_left n h = by_ran (native b.image s t n) h
    where
      by_ran : (o : Option Ran) → IfRan (Left (λ z told. P z)) o → P (served b s t o).0
      by_ran None h = trapped_left (plain_trap ILLEGAL_INSTRUCTION)
      by_ran (Some (Traps why)) h = trapped_left why
      by_ran (Some (Leaves after told)) h = h

  pub next_left : P (goes_on b s t (next_at (space_of b s) (cap_address (thread s t).pcc))).0
  next_left = by_next (λ (n : Next). P (goes_on b s t n).0) (space_of b s) (cap_address (thread s t).pcc)
      (return_case P b.image s t (thread s t).frames (λ f fs frames is. m.ends (handler_value (thread s t))) m.back)
      (λ k away read. result_left (operand s t (operands_of k).first) (carried b s t k) (m.done k))
      (λ n few other. served_left n (routines_left (λ z told. P z) b.image s t n few other m.moves))
      (trapped_left (plain_trap ILLEGAL_INSTRUCTION))

  pub executed_left : P (executed b s t).0
  unfolding executed
  executed_left = by (first_failed (fetch_checks (thread s t).pcc))
    where
      by : (o : Option Trap) → P (after_fetch b s t o).0
      by (Some why) = trapped_left why
      by None = next_left
