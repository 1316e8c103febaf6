-- Where a check of a step fails, the step is the trap of the first that does.
use Rattle.std.proofs.Common.{ℕ, ◌≡◌, ◌≤◌, ◌⊎◌, inl, inr, Bool, true, false, List, [], ◌∷◌, ◌++◌, Option, Some, None, Result, Err, refl, ap, ◌∙◌, subst}
use Rattle.def_profile.specs.declared.native.TheConstants.{RETURN}
use Rattle.def_profile.specs.declared.traps.TheConstants.{ILLEGAL_INSTRUCTION, BREAKPOINT, ENVIRONMENT_CALL, SYSTEM_REGISTER_CODE, PCC_REGISTER}
use Rattle.ct_entry.specs.declared.acts.Deed.{Deed}
use Rattle.def_words.specs.declared.Cap.{Cap}
use Rattle.def_words.specs.declared.Trap.{Trap}
use Rattle.def_words.specs.declared.Posture.{Posture}
use Rattle.def_words.specs.Authority.{cap_address}
use Rattle.def_words.specs.Traps.{capability_trap, plain_trap}
use Rattle.def_instr.specs.declared.Instr.{Instr}
use Rattle.def_instr.specs.declared.Instr.TheVariants.{Jal, CJalr, Beq, Bne, Blt, Bge, Bltu, Bgeu}
use Rattle.def_machine.specs.Platform.{Platform}
use Rattle.def_machine.specs.Image.{Image, stack_base}
use Rattle.def_machine.specs.State.{State, thread, register}
use Rattle.def_step.specs.declared.Class.{Class}
use Rattle.def_step.specs.declared.Class.TheVariants as class
use Rattle.def_step.specs.declared.Next.{Next}
use Rattle.def_step.specs.declared.TheConstants.{LAST_ROUTINE}
use Rattle.def_step.specs.Accesses.{access_result, unless}
use Rattle.def_step.specs.Checks.{Check, first_failed}
use Rattle.def_step.specs.Events.{continued, noted}
use Rattle.def_step.specs.Instructions.{Effect, after_fetch, around, accesses, carried_out, executed, fetch_checks, flows, goes_on, instruction_end, named_by, next_at, served, space_of, trapped}
use Rattle.def_step.specs.Jumps.{branched, flow_result, is_taken, jump_target}
use Rattle.def_step.specs.Native.{native}
use Rattle.def_step.specs.Operands.{class_of, operands_of}
use Rattle.def_step.specs.Routines.{Ran, Traps, checked, switch, word_checks}
use Rattle.def_step.specs.Switch.{frame_top, return_checks, switch_checks}
use Rattle.def_safety.specs.Each.{ready}
use Rattle.def_safety.specs.Traps.{FirstFails, AllHold, branch_checks, class_checks, jump_checks, next_checks, routine_checks, step_checks}
use Rattle.def_safety.specs.Used.{authority_of, value_of}
use Rattle.def_truly.specs.FailedChecks.{FailsTrap}
use Rattle.law_events.proofs.Fairness.{some_same}
use Rattle.law_history.proofs.Numbered.{by_number}
use Rattle.law_routines.proofs.Cases.{by_next}

-- ---- lists of checks

-- the first that fails of two lists one after another
two_lists : (xs ys : List Check) (why : Trap) → first_failed (xs ++ ys) ≡ Some why → (first_failed xs ≡ Some why) ⊎ ((first_failed xs ≡ None) × (first_failed ys ≡ Some why))
two_lists [] ys why e = inr (refl, e)
two_lists ((true, w) ∷ xs) ys why e = two_lists xs ys why e
two_lists ((false, w) ∷ xs) ys why e = inl e

pub first_failed_is : (cs : List Check) (why : Trap) → FirstFails cs why → first_failed cs ≡ Some why
first_failed_is cs why f = ap first_failed f.list ∙ by f.before f.hold
  where
    by : (before : List Check) → AllHold before → first_failed (before ++ (false, why) ∷ f.after) ≡ Some why
    by [] h = refl
    by ((true, w) ∷ cs) h = by cs h.1
    by ((false, w) ∷ cs) h = absurd (let clash : false ≡ true = h.0 in cc)

-- ---- routines

checked_fails : (cs : List Check) (r : Ran) (why : Trap) → first_failed cs ≡ Some why → checked cs r ≡ Traps why
checked_fails cs r why e = rw e refl

checked_passes : (cs : List Check) (r : Ran) → first_failed cs ≡ None → checked cs r ≡ r
checked_passes cs r e = rw e refl

twice_fails : (cs ds : List Check) (r : Ran) (why : Trap) → first_failed (cs ++ ds) ≡ Some why → checked cs (checked ds r) ≡ Traps why
twice_fails cs ds r why e = elim (two_lists cs ds why e) [
  | inl first ↦ checked_fails cs (checked ds r) why first
  | inr second ↦ checked_passes cs (checked ds r) second.0 ∙ checked_fails ds r why second.1
]

module _ (i : Image) (s : State) (t : ℕ) where
  switch_fails : (why : Trap) → first_failed (switch_checks (stack_base i t) (frame_top (thread s t).frames) (thread s t)) ≡ Some why → switch i s t ≡ Traps why
  switch_fails why e = rw e refl

  -- a routine of this number
  abbrev Fails : ℕ → Option Ran → Type 0
  Fails n o = (why : Trap) → first_failed (routine_checks i s t n) ≡ Some why → o ≡ Some (Traps why)

  once : (r : Ran) (why : Trap) → first_failed (return_checks (register (thread s t) 1)) ≡ Some why → Some (checked (return_checks (register (thread s t) 1)) r) ≡ Some (Traps why)
  once r why e = ap (λ (z : Ran). Some z) (checked_fails (return_checks (register (thread s t) 1)) r why e)

  twice : (r : Ran) (why : Trap) → first_failed (return_checks (register (thread s t) 1) ++ word_checks i s (register (thread s t) 10)) ≡ Some why
      → Some (checked (return_checks (register (thread s t) 1)) (checked (word_checks i s (register (thread s t) 10)) r)) ≡ Some (Traps why)
  twice r why e = ap (λ (z : Ran). Some z) (twice_fails (return_checks (register (thread s t) 1)) (word_checks i s (register (thread s t) 10)) r why e)

  native_fails : (n : ℕ) → n ≤ LAST_ROUTINE → (n ≡ RETURN → ⊥) → Fails n (native i s t n)
  native_fails n few other = by_number Fails i s t n few other (record {
    switch = λ why e. ap (λ (z : Ran). Some z) (switch_fails why e);
    yield = once _;
    sleep = once _;
    wait = twice _;
    wake = twice _;
    allocate = once _;
    free = once _;
    remaining = once _;
    token_key = once _;
    token_new = once _;
    token_open = once _;
    token_free = once _;
  })

-- ---- instructions

unless_fails : {A : Type 0} (o : Option Trap) (a : A) (why : Trap) → o ≡ Some why → unless o a ≡ Err why
unless_fails o a why e = rw e refl

branch_fails : (taken : Bool) (pcc : Cap) (posture : Posture) (offset : ℕ) (why : Trap) → first_failed (branch_checks taken (jump_target pcc offset)) ≡ Some why → branched taken pcc posture offset ≡ Err why
branch_fails true pcc posture offset why e = unless_fails _ _ why e
branch_fails false pcc posture offset why e = absurd (let clash : None ≡ Some why = e in cc)

jump_fails : (k : Instr) (x y pcc : Cap) (posture : Posture) (named : ℕ) (why : Trap) → first_failed (jump_checks k x y pcc) ≡ Some why → flow_result k x y pcc posture named ≡ Err why
unfolding flow_result
jump_fails (Jal rd offset) x y pcc posture named why e = unless_fails _ _ why e
jump_fails (CJalr rd rs1 n) x y pcc posture named why e = unless_fails _ _ why e
jump_fails (Beq rs1 rs2 offset) x y pcc posture named why e = branch_fails (is_taken (Beq rs1 rs2 offset) (cap_address x) (cap_address y)) pcc posture offset why e
jump_fails (Bne rs1 rs2 offset) x y pcc posture named why e = branch_fails (is_taken (Bne rs1 rs2 offset) (cap_address x) (cap_address y)) pcc posture offset why e
jump_fails (Blt rs1 rs2 offset) x y pcc posture named why e = branch_fails (is_taken (Blt rs1 rs2 offset) (cap_address x) (cap_address y)) pcc posture offset why e
jump_fails (Bge rs1 rs2 offset) x y pcc posture named why e = branch_fails (is_taken (Bge rs1 rs2 offset) (cap_address x) (cap_address y)) pcc posture offset why e
jump_fails (Bltu rs1 rs2 offset) x y pcc posture named why e = branch_fails (is_taken (Bltu rs1 rs2 offset) (cap_address x) (cap_address y)) pcc posture offset why e
jump_fails (Bgeu rs1 rs2 offset) x y pcc posture named why e = branch_fails (is_taken (Bgeu rs1 rs2 offset) (cap_address x) (cap_address y)) pcc posture offset why e
jump_fails k x y pcc posture named why e = absurd (let clash : None ≡ Some why = e in cc)

access_fails : (b : Platform) (s : State) (t to : ℕ) (k : Instr) (why : Trap) → first_failed (class_checks class.Access k s t) ≡ Some why
    → accesses (around b s t) to (access_result k (authority_of s t k) (value_of s t k) (space_of b s)) ≡ Err why
unfolding access_result
access_fails b s t to k why e = rw e refl

-- by its class
class_fails : (b : Platform) (s : State) (t to named : ℕ) (c : Class) (k : Instr) (why : Trap) → first_failed (class_checks c k s t) ≡ Some why → carried_out c k to (authority_of s t k) (value_of s t k) named (around b s t) ≡ Err why
class_fails b s t to named class.Integer k why e = absurd (let clash : None ≡ Some why = e in cc)
class_fails b s t to named class.Capability k why e = absurd (let clash : None ≡ Some why = e in cc)
class_fails b s t to named class.System k why e = some_same (λ (z : Trap). (let left : Result Effect Trap = Err (capability_trap SYSTEM_REGISTER_CODE PCC_REGISTER) in left) ≡ Err z) (capability_trap SYSTEM_REGISTER_CODE PCC_REGISTER) why e refl
class_fails b s t to named class.Jump k why e = ap (flows (around b s t) to) (jump_fails k (authority_of s t k) (value_of s t k) (thread s t).pcc (thread s t).posture named why e)
class_fails b s t to named class.Access k why e = access_fails b s t to k why e
class_fails b s t to named class.Fence k why e = absurd (let clash : None ≡ Some why = e in cc)
class_fails b s t to named class.Call k why e = some_same (λ (z : Trap). (let left : Result Effect Trap = Err (plain_trap ENVIRONMENT_CALL) in left) ≡ Err z) (plain_trap ENVIRONMENT_CALL) why e refl
class_fails b s t to named class.Break k why e = some_same (λ (z : Trap). (let left : Result Effect Trap = Err (plain_trap BREAKPOINT) in left) ≡ Err z) (plain_trap BREAKPOINT) why e refl

-- ---- a step

module _ (b : Platform) (s : State) (t : ℕ) where
  -- what stands at the program counter
  next_fails : (why : Trap) → first_failed (next_checks b.image s t (next_at (space_of b s) (cap_address (thread s t).pcc))) ≡ Some why
      → goes_on b s t (next_at (space_of b s) (cap_address (thread s t).pcc)) ≡ trapped b s t why
  next_fails why = by_next (λ (n : Next). first_failed (next_checks b.image s t n) ≡ Some why → goes_on b s t n ≡ trapped b s t why) (space_of b s) (cap_address (thread s t).pcc)
      (λ e. absurd (let clash : None ≡ Some why = e in cc))
      (λ k away read e. ap (instruction_end b s t (authority_of s t k)) (class_fails b s t (operands_of k).to (named_by b.image (authority_of s t k)) (class_of k) k why e))
      (λ n few other e. ap (served b s t) (native_fails b.image s t n few other why e))
      (λ e. some_same (λ (z : Trap). trapped b s t (plain_trap ILLEGAL_INSTRUCTION) ≡ trapped b s t z) (plain_trap ILLEGAL_INSTRUCTION) why e refl)

  pub executed_fails : (why : Trap) → first_failed (step_checks b s t) ≡ Some why → executed b s t ≡ trapped b s t why
  unfolding executed
  executed_fails why e = elim (two_lists (fetch_checks (thread s t).pcc) (next_checks b.image s t (next_at (space_of b s) (cap_address (thread s t).pcc))) why e) [
    | inl first ↦ ap (after_fetch b s t) first
    | inr second ↦ ap (after_fetch b s t) second.0 ∙ next_fails why second.1
  ]

continued_fails : (b : Platform) (z : State) (t : ℕ) (why : Trap) (o : Option ℕ) → o ≡ Some t → first_failed (step_checks b z t) ≡ Some why → continued b z o ≡ noted (trapped b z t why)
continued_fails b z t why None runs e = absurd (let clash : None ≡ Some t = runs in cc)
continued_fails b z t why (Some u) runs e = (let same : t ≡ u = cc in subst (λ n. continued b z (Some n) ≡ noted (trapped b z t why)) same (ap noted (executed_fails b z t why e)))

pub fails_trap : (b : Platform) (s : State) → FailsTrap b s
fails_trap b s t why runs e =
    let same : continued b (ready b s) (ready b s).running ≡ noted (trapped b (ready b s) t why) = continued_fails b (ready b s) t why (ready b s).running runs e in
    record { told = ap (λ (r : State × Option Deed). r.1) same; does = ap (λ (r : State × Option Deed). r.0) same }
