-- What holds of each thing by which a step leaves a state, said of each routine by itself, holds of what the step
-- leaves.
use Rattle.std.proofs.Common.{ℕ, ◌≡◌, true, List, ◌∷◌, Option, Some, None, Result, Ok, Err}
use Rattle.def_instr.specs.declared.Instr.{Instr}
use Rattle.def_profile.specs.declared.answers.TheConstants.{UNWOUND}
use Rattle.def_profile.specs.declared.traps.TheConstants.{ILLEGAL_INSTRUCTION}
use Rattle.def_words.specs.declared.Cap.{Cap}
use Rattle.def_words.specs.declared.Trap.{Trap}
use Rattle.def_words.specs.Authority.{cap_address}
use Rattle.def_words.specs.Traps.{plain_trap}
use Rattle.def_events.specs.Leaving.{IfRan, Left}
use Rattle.def_machine.specs.Frames.{returned, ended_with}
use Rattle.def_machine.specs.Image.{stack_base}
use Rattle.def_machine.specs.Platform.{Platform}
use Rattle.def_machine.specs.State.{State, Frame, thread}
use Rattle.def_step.specs.declared.Next.{Next}
use Rattle.def_step.specs.Checks.{first_failed}
use Rattle.def_step.specs.Handlers.{handler_entered, handler_value, is_handled}
use Rattle.def_step.specs.Instructions.{Effect, after_fetch, executed, fetch_checks, goes_on, instruction_end, next_at, operand, served, space_of, trapped}
use Rattle.def_step.specs.Native.{native}
use Rattle.def_step.specs.Operands.{operands_of}
use Rattle.def_step.specs.Routines.{Ran, Traps, Leaves}
use Rattle.law_routines.proofs.Cases.{Routines, by_next, by_routine}
use Rattle.law_routines.proofs.Stepping.{IfDone, carried, return_case, trap_case}

-- a handler that is entered, a frame that ends with a value, one that returns, an instruction, and each routine
pub record Routed (P : State → Type 0) (b : Platform) (s : State) (u : ℕ) : Type 0 where
  pub handles : (why : Trap) (f : Frame) (fs : List Frame) → (thread s u).frames ≡ f ∷ fs → is_handled b.image (stack_base b.image u) (thread s u) f ≡ true → P (handler_entered b.image s u why f fs)
  pub ends : (value : ℕ) → P (ended_with b.image s u value (thread s u).frames)
  pub back : P (returned b.image s u (thread s u).frames)
  pub done : (k : Instr) → IfDone P s u (carried b s u k)
  pub routines : Routines (λ r. Left (λ z told. P z) r) b.image s u

module _ (P : State → Type 0) (b : Platform) (s : State) (u : ℕ) (m : Routed P b s u) where
  trapped_goes : (why : Trap) → P (trapped b s u why).0
  trapped_goes why = trap_case P b.image s u why (thread s u).frames (λ f fs frames is. m.handles why f fs frames is) (m.ends UNWOUND)

  result_goes : (x : Cap) (r : Result Effect Trap) → IfDone P s u r → P (instruction_end b s u x r).0
  result_goes x (Err why) h = trapped_goes why
  result_goes x (Ok d) h = h

  served_goes : (o : Option Ran) → IfRan (λ r. Left (λ z told. P z) r) o → P (served b s u o).0
  served_goes None h = trapped_goes (plain_trap ILLEGAL_INSTRUCTION)
  served_goes (Some (Traps why)) h = trapped_goes why
  served_goes (Some (Leaves after told)) h = h

  next_goes : P (goes_on b s u (next_at (space_of b s) (cap_address (thread s u).pcc))).0
  next_goes = by_next (λ (n : Next). P (goes_on b s u n).0) (space_of b s) (cap_address (thread s u).pcc)
      (return_case P b.image s u (thread s u).frames (λ f fs frames is. m.ends (handler_value (thread s u))) (λ plain_one. m.back))
      (λ k away read. result_goes (operand s u (operands_of k).first) (carried b s u k) (m.done k))
      (λ n few not_return. served_goes (native b.image s u n) (by_routine (IfRan (λ r. Left (λ z told. P z) r)) b.image s u n few not_return m.routines))
      (trapped_goes (plain_trap ILLEGAL_INSTRUCTION))

  pub executed_goes : P (executed b s u).0
  unfolding executed
  executed_goes = by (first_failed (fetch_checks (thread s u).pcc))
    where
      by : (o : Option Trap) → P (after_fetch b s u o).0
      by (Some why) = trapped_goes why
      by None = next_goes
