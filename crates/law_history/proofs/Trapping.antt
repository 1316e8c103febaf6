-- A trap that is told is that of the first check that fails, of the lists as they are written.
use Rattle.std.proofs.Common.{ℕ, ◌≡◌, ◌≤◌, ◌-◌, ◌==◌, ◌⊎◌, inl, inr, Bool, true, false, nat_lt, List, [], ◌∷◌, ◌++◌, length, option_map, Option, Some, None, Result, Ok, Err, refl, sym, ap, ◌∙◌, subst, if◌then◌else◌}
use Rattle.std.proofs.lemmas.Bool.{eqb-true}
use Rattle.law_lists.proofs.Tests.{chosen}
use Rattle.ct_entry.specs.declared.acts.Act.{Act}
use Rattle.ct_entry.specs.declared.acts.Act.TheVariants as acts
use Rattle.ct_entry.specs.declared.acts.Deed.{Deed}
use Rattle.def_native.specs.declared.TheConstants.{SWITCH, YIELD, SLEEP, WAIT, WAKE, ALLOCATE, FREE, REMAINING, TOKEN_KEY, TOKEN_NEW, TOKEN_OPEN, TOKEN_FREE}
use Rattle.def_profile.specs.declared.native.TheConstants.{RETURN}
use Rattle.def_profile.specs.declared.traps.TheConstants.{ILLEGAL_INSTRUCTION}
use Rattle.def_words.specs.declared.Cap.{Cap}
use Rattle.def_words.specs.declared.Trap.{Trap}
use Rattle.def_words.specs.declared.Posture.{Posture}
use Rattle.def_words.specs.Authority.{cap_address}
use Rattle.def_words.specs.Capability.{integer}
use Rattle.def_words.specs.Traps.{plain_trap}
use Rattle.def_instr.specs.declared.Instr.{Instr}
use Rattle.def_instr.specs.declared.Instr.TheVariants.{Jal, CJalr, Beq, Bne, Blt, Bge, Bltu, Bgeu}
use Rattle.def_machine.specs.Platform.{Platform}
use Rattle.def_machine.specs.Image.{Image, root, stack_base, frames_most}
use Rattle.def_machine.specs.State.{State, Object, register, thread}
use Rattle.def_machine.specs.Objects.{charges}
use Rattle.def_memory.specs.Accesses.{loaded}
use Rattle.def_reach.specs.Roots.{gate_for}
use Rattle.def_sched.specs.Statuses.{asleep}
use Rattle.def_step.specs.declared.Class.{Class}
use Rattle.def_step.specs.declared.Class.TheVariants as class
use Rattle.def_step.specs.declared.Event.{Event}
use Rattle.def_step.specs.declared.Event.TheVariants.{Step, Tick, Sweep, Input}
use Rattle.def_step.specs.declared.Next.{Next}
use Rattle.def_step.specs.declared.Next.TheVariants.{Returning, Instruction, Native, Nothing}
use Rattle.def_step.specs.declared.TheConstants.{LAST_ROUTINE}
use Rattle.def_step.specs.Accesses.{Accessed, access_of, access_checks, access_result, accessed, unless}
use Rattle.def_step.specs.Checks.{Check, first_failed}
use Rattle.def_step.specs.Events.{stepped}
use Rattle.def_step.specs.Handlers.{return_taken}
use Rattle.def_step.specs.Instructions.{Effect, after_fetch, around, accesses, carried_out, deed, deed_told, instruction_end, executed, fetch_checks, flows, goes_on, named_by, next_at, put_done, served, space_of, trapped}
use Rattle.def_step.specs.Jumps.{Flowed, branched, flow_result, is_taken, passed_over, jump_target}
use Rattle.def_step.specs.Native.{native}
use Rattle.def_step.specs.Operands.{class_of, operands_of}
use Rattle.def_step.specs.Quotas.{Allocation, Refused, Made, allocate, allocated, allocation, by_quota, free, freed_as, is_quota_cap, quota_in, remaining, whole_of}
use Rattle.def_step.specs.Routines.{Ran, Traps, Leaves, checked, code, sleep, stops, switch, switched_to, tells, wait, waits, wake, threads_woken, word_checks, yield}
use Rattle.def_step.specs.Switch.{Switched, TooDeep, NoStack, Enters, called, frame_top, new_top, past_checks, return_checks, switch_checks, with_room}
use Rattle.def_step.specs.Tokens.{by_key, frees_token, key_of, made_token, opens, token_free, token_key, token_new, token_object, token_open}
use Rattle.def_events.specs.Leaving.{IfRan, Left}
use Rattle.law_routines.proofs.Cases.{by_next, by_routine}
use Rattle.law_routines.proofs.Leaving.{option_tells, routines_left}
use Rattle.law_events.proofs.Fairness.{some_same}
use Rattle.def_safety.specs.Each.{ready}
use Rattle.def_safety.specs.Traps.{FirstFails, TrapsFirst, branch_checks, class_checks, jump_checks, next_checks, routine_checks, step_checks}
use Rattle.def_safety.specs.Used.{authority_of, value_of, access_start}
use Rattle.law_history.proofs.Steps.{none_told, step_case}
use Rattle.law_history.proofs.Telling.{IsAccess, IfAccess, IfDone, IfTold, class_acts, executed_tells}

-- ---- lists of checks

first_fails : (cs : List Check) (why : Trap) → first_failed cs ≡ Some why → FirstFails cs why
first_fails [] why e = absurd (let clash : None ≡ Some why = e in cc)
first_fails ((true, w) ∷ cs) why e =
    let later = first_fails cs why e in
    record { before = (true, w) ∷ later.before; after = later.after; list = ap (λ (xs : List Check). (true, w) ∷ xs) later.list; hold = (refl, later.hold) }
first_fails ((false, w) ∷ cs) why e =
    let same : w ≡ why = cc in
    record { before = []; after = cs; list = ap (λ (t : Trap). (false, t) ∷ cs) same; hold = tt }

failed_left : (xs ys : List Check) (why : Trap) → first_failed xs ≡ Some why → first_failed (xs ++ ys) ≡ Some why
failed_left [] ys why e = absurd (let clash : None ≡ Some why = e in cc)
failed_left ((true, w) ∷ xs) ys why e = failed_left xs ys why e
failed_left ((false, w) ∷ xs) ys why e = e

failed_right : (xs ys : List Check) → first_failed xs ≡ None → first_failed (xs ++ ys) ≡ first_failed ys
failed_right [] ys e = refl
failed_right ((true, w) ∷ xs) ys e = failed_right xs ys e
failed_right ((false, w) ∷ xs) ys e = absurd (let clash : Some w ≡ None = e in cc)

-- ---- routines

-- a routine that answers, whatever it does
abbrev IsLeft : Ran → Type 0
IsLeft (Traps why) = ⊥
IsLeft (Leaves z told) = Unit {0}

abbrev trap_of : Trap → Ran → Trap
trap_of w (Traps why) = why
trap_of w (Leaves z told) = w

left_no_trap : {G : Type 0} (r : Ran) (why : Trap) → IsLeft r → r ≡ Traps why → G
left_no_trap r why h e = absurd (subst IsLeft e h)

-- after checks: the trap is of the checks, or of what comes after
checked_traps : (cs : List Check) (r : Ran) (why : Trap) → checked cs r ≡ Traps why → (first_failed cs ≡ Some why) ⊎ ((first_failed cs ≡ None) × (r ≡ Traps why))
checked_traps cs r why e = elim (option_tells (first_failed cs)) [
  | inl none ↦ (let same : checked cs r ≡ r = rw none refl in inr (none, sym same ∙ e))
  | inr some ↦ (let same : checked cs r ≡ Traps some.0 = rw some.1 refl in inl (some.1 ∙ ap (λ (w : Trap). Some w) (ap (trap_of why) (sym same ∙ e))))
]

-- one list of checks alone
once_traps : (cs : List Check) (r : Ran) (why : Trap) → IsLeft r → checked cs r ≡ Traps why → first_failed cs ≡ Some why
once_traps cs r why h e = elim (checked_traps cs r why e) [ inl is ↦ is | inr later ↦ left_no_trap r why h later.1 ]

-- two lists
twice_traps : (cs ds : List Check) (r : Ran) (why : Trap) → IsLeft r → checked cs (checked ds r) ≡ Traps why → first_failed (cs ++ ds) ≡ Some why
twice_traps cs ds r why h e = elim (checked_traps cs (checked ds r) why e) [
  | inl is ↦ failed_left cs ds why is
  | inr later ↦ failed_right cs ds later.0 ∙ once_traps ds r why h later.1
]

module _ (i : Image) (s : State) (t : ℕ) where
  allocated_left : (a : Allocation) → IsLeft (allocated s t a)
  allocated_left (Refused n) = tt
  allocated_left (Made r) = tt

  token_left : (key : Option ℕ) (a : Allocation) → IsLeft (made_token s t key a)
  token_left key (Refused n) = tt
  token_left key (Made r) = tt

  freed_left : (o : Option Object) → IsLeft (freed_as i s t o)
  freed_left None = tt
  freed_left (Some r) = tt

  key_left : (o : Option Object) (next : ℕ → Ran) → ((key : ℕ) → IsLeft (next key)) → IsLeft (by_key s t o next)
  key_left None next h = tt
  key_left (Some r) next h = h r.number

  opens_left : (c : Cap) (o : Option Object) → IsLeft (opens s t c o)
  opens_left c None = tt
  opens_left c (Some r) = tt

  frees_left : (quota : ℕ) (o : Option Object) → IsLeft (frees_token i s t quota o)
  frees_left quota None = tt
  frees_left quota (Some r) = chosen IsLeft (r.quota == quota) _ _ (λ is. tt) (λ not. tt)

  quota_traps : (r : Ran) (why : Trap) → IsLeft r → by_quota s t r ≡ Traps why → first_failed (return_checks (register (thread s t) 1)) ≡ Some why
  quota_traps r why h = once_traps (return_checks (register (thread s t) 1)) (if is_quota_cap (register (thread s t) 10) then r else tells s t (code 1)) why
      (chosen IsLeft (is_quota_cap (register (thread s t) 10)) r (tells s t (code 1)) (λ is. h) (λ not. tt))

  switch_traps : (why : Trap) → switch i s t ≡ Traps why → first_failed (switch_checks (stack_base i t) (frame_top (thread s t).frames) (thread s t)) ≡ Some why
  switch_traps why = by (first_failed (switch_checks (stack_base i t) (frame_top (thread s t).frames) (thread s t)))
    where
      room_left : IsLeft (switched_to i s t (past_checks i.entries (stack_base i t) (frames_most i t) (thread s t) None))
      room_left = chosen (λ (z : Switched). IsLeft (switched_to i s t z)) (length (thread s t).frames == frames_most i t) TooDeep (with_room i.entries (stack_base i t) (new_top (stack_base i t) (cap_address (register (thread s t) 2))) (called i.entries (thread s t)))
          (λ is. tt)
          (λ not. chosen (λ (z : Switched). IsLeft (switched_to i s t z)) (nat_lt (new_top (stack_base i t) (cap_address (register (thread s t) 2)) - stack_base i t) (gate_for i.entries.gates (called i.entries (thread s t))).stack) NoStack (Enters (called i.entries (thread s t)) (new_top (stack_base i t) (cap_address (register (thread s t) 2))))
          (λ is. tt)
          (λ fits. tt))

      by : (o : Option Trap) → switched_to i s t (past_checks i.entries (stack_base i t) (frames_most i t) (thread s t) o) ≡ Traps why → o ≡ Some why
      by (Some w) e = ap (λ (z : Trap). Some z) (ap (trap_of why) e)
      by None e = left_no_trap (switched_to i s t (past_checks i.entries (stack_base i t) (frames_most i t) (thread s t) None)) why room_left e

  waits_left : (address held wanted : ℕ) → IsLeft (waits s t address held wanted)
  waits_left address held wanted = chosen IsLeft (held == wanted) _ _ (λ is. tt) (λ not. tt)

  -- a routine of this number
  abbrev Names : ℕ → Ran → Type 0
  Names n r = (why : Trap) → r ≡ Traps why → first_failed (routine_checks i s t n) ≡ Some why

  -- each routine by its number
  abbrev held : ℕ → Cap
  held n = register (thread s t) n

  yield_names : Names YIELD (yield s t)
  yield_names why = once_traps (return_checks (held 1)) (stops s t (asleep 0)) why tt

  sleep_names : Names SLEEP (sleep s t)
  sleep_names why = once_traps (return_checks (held 1)) (stops s t (asleep (cap_address (held 10)))) why tt

  wait_names : Names WAIT (wait i s t)
  wait_names why = twice_traps (return_checks (held 1)) (word_checks i s (held 10)) (waits s t (cap_address (held 10)) (loaded s.granules (cap_address (held 10) - i.ram) 4) (cap_address (held 11))) why
      (waits_left (cap_address (held 10)) (loaded s.granules (cap_address (held 10) - i.ram) 4) (cap_address (held 11)))

  wake_names : Names WAKE (wake i s t)
  wake_names why = twice_traps (return_checks (held 1)) (word_checks i s (held 10)) (Leaves (threads_woken s t (cap_address (held 10)) (cap_address (held 11))) None) why tt

  allocate_names : Names ALLOCATE (allocate i s t)
  allocate_names why = quota_traps (allocated s t (allocation i s (quota_in s t) (cap_address (held 11)))) why (allocated_left (allocation i s (quota_in s t) (cap_address (held 11))))

  free_names : Names FREE (free i s t)
  free_names why = quota_traps (freed_as i s t (whole_of s.objects (quota_in s t) (held 11))) why (freed_left (whole_of s.objects (quota_in s t) (held 11)))

  remaining_names : Names REMAINING (remaining i s t)
  remaining_names why = quota_traps (tells s t (integer ((root i (quota_in s t)).limit - charges (quota_in s t) s.objects))) why tt

  key_names : Names TOKEN_KEY (token_key i s t)
  key_names why = quota_traps (made_token s t None (allocation i s (quota_in s t) 8)) why (token_left None (allocation i s (quota_in s t) 8))

  abbrev makes : ℕ → Ran
  makes key = made_token s t (Some key) (allocation i s (quota_in s t) (cap_address (held 11)))

  new_names : Names TOKEN_NEW (token_new i s t)
  new_names why = quota_traps (by_key s t (key_of s (held 12)) makes) why (key_left (key_of s (held 12)) makes (λ key. token_left (Some key) (allocation i s (quota_in s t) (cap_address (held 11)))))

  abbrev opens_by : ℕ → Ran
  opens_by key = opens s t (held 11) (token_object s key (held 11))

  open_names : Names TOKEN_OPEN (token_open s t)
  open_names why = once_traps (return_checks (held 1)) (by_key s t (key_of s (held 10)) opens_by) why (key_left (key_of s (held 10)) opens_by (λ key. opens_left (held 11) (token_object s key (held 11))))

  abbrev frees_by : ℕ → Ran
  frees_by key = frees_token i s t (quota_in s t) (token_object s key (held 12))

  token_free_names : Names TOKEN_FREE (token_free i s t)
  token_free_names why = quota_traps (by_key s t (key_of s (held 11)) frees_by) why (key_left (key_of s (held 11)) frees_by (λ key. frees_left (quota_in s t) (token_object s key (held 12))))

  -- the routine of a number
  some_ran : (n m : ℕ) (r : Ran) → (n == m) ≡ true → Names m r → (why : Trap) → Some r ≡ Some (Traps why) → first_failed (routine_checks i s t n) ≡ Some why
  some_ran n m r is h why e =
      let same : r ≡ Traps why = cc in
      subst (λ (k : ℕ). first_failed (routine_checks i s t k) ≡ Some why) (sym (eqb-true n m is)) (h why same)

  native_traps : (n : ℕ) → (n ≡ RETURN → ⊥) → (why : Trap) → native i s t n ≡ Some (Traps why) → first_failed (routine_checks i s t n) ≡ Some why
  native_traps n other why =
      let P : Option Ran → Type 0 = λ o. o ≡ Some (Traps why) → first_failed (routine_checks i s t n) ≡ Some why in
      chosen P (n == SWITCH) _ _ (λ is. some_ran n SWITCH (switch i s t) is switch_traps why)
      (λ n0. chosen P (n == RETURN) _ _ (λ is. absurd (other (eqb-true n RETURN is)))
      (λ n1. chosen P (n == YIELD) _ _ (λ is. some_ran n YIELD (yield s t) is yield_names why)
      (λ n2. chosen P (n == SLEEP) _ _ (λ is. some_ran n SLEEP (sleep s t) is sleep_names why)
      (λ n3. chosen P (n == WAIT) _ _ (λ is. some_ran n WAIT (wait i s t) is wait_names why)
      (λ n4. chosen P (n == WAKE) _ _ (λ is. some_ran n WAKE (wake i s t) is wake_names why)
      (λ n5. chosen P (n == ALLOCATE) _ _ (λ is. some_ran n ALLOCATE (allocate i s t) is allocate_names why)
      (λ n6. chosen P (n == FREE) _ _ (λ is. some_ran n FREE (free i s t) is free_names why)
      (λ n7. chosen P (n == REMAINING) _ _ (λ is. some_ran n REMAINING (remaining i s t) is remaining_names why)
      (λ n8. chosen P (n == TOKEN_KEY) _ _ (λ is. some_ran n TOKEN_KEY (token_key i s t) is key_names why)
      (λ n9. chosen P (n == TOKEN_NEW) _ _ (λ is. some_ran n TOKEN_NEW (token_new i s t) is new_names why)
      (λ n10. chosen P (n == TOKEN_OPEN) _ _ (λ is. some_ran n TOKEN_OPEN (token_open s t) is open_names why)
      (λ n11. chosen P (n == TOKEN_FREE) _ _ (λ is. some_ran n TOKEN_FREE (token_free i s t) is token_free_names why)
      (λ n12 e. absurd (let clash : None ≡ Some (Traps why) = e in cc))))))))))))))

-- ---- instructions

abbrev error_of : {A : Type 0} → Trap → Result A Trap → Trap
error_of w (Ok a) = w
error_of w (Err why) = why

unless_traps : {A : Type 0} (o : Option Trap) (a : A) (why : Trap) → unless o a ≡ Err why → o ≡ Some why
unless_traps None a why e = absurd (let clash : Ok a ≡ Err why = e in cc)
unless_traps (Some w) a why e = ap (λ (z : Trap). Some z) (ap (error_of why) e)

branch_traps : (taken : Bool) (pcc : Cap) (posture : Posture) (offset : ℕ) (why : Trap) → branched taken pcc posture offset ≡ Err why → first_failed (branch_checks taken (jump_target pcc offset)) ≡ Some why
branch_traps true pcc posture offset why e = unless_traps _ _ why e
branch_traps false pcc posture offset why e = absurd (let clash : passed_over pcc posture ≡ Err why = e in cc)

jump_traps : (k : Instr) (x y pcc : Cap) (posture : Posture) (named : ℕ) (why : Trap) → flow_result k x y pcc posture named ≡ Err why → first_failed (jump_checks k x y pcc) ≡ Some why
unfolding flow_result
jump_traps (Jal rd offset) x y pcc posture named why e = unless_traps _ _ why e
jump_traps (CJalr rd rs1 n) x y pcc posture named why e = unless_traps _ _ why e
jump_traps (Beq rs1 rs2 offset) x y pcc posture named why e = branch_traps (is_taken (Beq rs1 rs2 offset) (cap_address x) (cap_address y)) pcc posture offset why e
jump_traps (Bne rs1 rs2 offset) x y pcc posture named why e = branch_traps (is_taken (Bne rs1 rs2 offset) (cap_address x) (cap_address y)) pcc posture offset why e
jump_traps (Blt rs1 rs2 offset) x y pcc posture named why e = branch_traps (is_taken (Blt rs1 rs2 offset) (cap_address x) (cap_address y)) pcc posture offset why e
jump_traps (Bge rs1 rs2 offset) x y pcc posture named why e = branch_traps (is_taken (Bge rs1 rs2 offset) (cap_address x) (cap_address y)) pcc posture offset why e
jump_traps (Bltu rs1 rs2 offset) x y pcc posture named why e = branch_traps (is_taken (Bltu rs1 rs2 offset) (cap_address x) (cap_address y)) pcc posture offset why e
jump_traps (Bgeu rs1 rs2 offset) x y pcc posture named why e = branch_traps (is_taken (Bgeu rs1 rs2 offset) (cap_address x) (cap_address y)) pcc posture offset why e
jump_traps k x y pcc posture named why e = absurd (let clash : passed_over pcc posture ≡ Err why = e in cc)

flows_traps : (b : Platform) (s : State) (t to : ℕ) (r : Result Flowed Trap) (why : Trap) → flows (around b s t) to r ≡ Err why → r ≡ Err why
flows_traps b s t to (Ok f) why e = absurd (let clash : error_ok (flows (around b s t) to (Ok f)) ≡ error_ok (Err why) = ap error_ok e in let plain : true ≡ false = clash in cc)
  where
    error_ok : Result Effect Trap → Bool
    error_ok (Ok d) = true
    error_ok (Err w) = false
flows_traps b s t to (Err w) why e = ap (λ (z : Trap). Err z) (ap (error_of why) e)

accesses_traps : (b : Platform) (s : State) (t to : ℕ) (r : Result Accessed Trap) (why : Trap) → accesses (around b s t) to r ≡ Err why → r ≡ Err why
accesses_traps b s t to (Ok m) why e = absurd (let clash : error_ok (accesses (around b s t) to (Ok m)) ≡ error_ok (Err why) = ap error_ok e in let plain : true ≡ false = clash in cc)
  where
    error_ok : Result Effect Trap → Bool
    error_ok (Ok d) = true
    error_ok (Err w) = false
accesses_traps b s t to (Err w) why e = ap (λ (z : Trap). Err z) (ap (error_of why) e)

access_traps : (b : Platform) (s : State) (t to : ℕ) (k : Instr) (why : Trap) → accesses (around b s t) to (access_result k (authority_of s t k) (value_of s t k) (space_of b s)) ≡ Err why
    → first_failed (access_checks (access_of k) (authority_of s t k) (value_of s t k) (access_start s t k)) ≡ Some why
unfolding access_result
access_traps b s t to k why e = unless_traps _ (accessed (access_of k) (authority_of s t k) (value_of s t k) (access_start s t k) (space_of b s)) why (accesses_traps b s t to _ why e)

class_traps : (b : Platform) (s : State) (t to named : ℕ) (c : Class) (k : Instr) (why : Trap) → carried_out c k to (authority_of s t k) (value_of s t k) named (around b s t) ≡ Err why → first_failed (class_checks c k s t) ≡ Some why
class_traps b s t to named class.Integer k why e = absurd (let clash : Ok _ ≡ Err why = e in cc)
class_traps b s t to named class.Capability k why e = absurd (let clash : Ok _ ≡ Err why = e in cc)
class_traps b s t to named class.System k why e = ap (λ (z : Trap). Some z) (ap (error_of why) e)
class_traps b s t to named class.Jump k why e = jump_traps k (authority_of s t k) (value_of s t k) (thread s t).pcc (thread s t).posture named why (flows_traps b s t to _ why e)
class_traps b s t to named class.Access k why e = access_traps b s t to k why e
class_traps b s t to named class.Fence k why e = absurd (let clash : Ok _ ≡ Err why = e in cc)
class_traps b s t to named class.Call k why e = ap (λ (z : Trap). Some z) (ap (error_of why) e)
class_traps b s t to named class.Break k why e = ap (λ (z : Trap). Some z) (ap (error_of why) e)

-- ---- what is told

abbrev trap_in : Act → Trap
trap_in (acts.Trap cause code register) = record { cause = cause; code = code; register = register }
trap_in _ = plain_trap 0

-- each trap that is told is one that these checks name
abbrev TellsNamed : (Trap → Type 0) → State × Option Deed → Type 0
TellsNamed P r = (d : Deed) (cause code register : ℕ) → r.1 ≡ Some d → d.act ≡ acts.Trap cause code register → P (record { cause = cause; code = code; register = register })

none_named : (P : Trap → Type 0) (z : State) → TellsNamed P (z, None)
none_named P z d cause code register e act = absurd (let clash : None ≡ Some d = e in cc)

trap_named : (P : Trap → Type 0) (b : Platform) (s : State) (t : ℕ) (why : Trap) → P why → TellsNamed P (trapped b s t why)
trap_named P b s t why h d cause code register e act =
    some_same (λ (d : Deed). d.act ≡ acts.Trap cause code register → P (record { cause = cause; code = code; register = register })) (deed s t 0 (acts.Trap why.cause why.code why.register)) d e
    (λ is. subst P (ap trap_in is) h) act

-- an act that is no trap
abbrev IsOther : Act → Type 0
IsOther (acts.Trap cause code register) = ⊥
IsOther _ = Unit {0}

other_named : (P : Trap → Type 0) (z : State) (told : Deed) → IsOther told.act → TellsNamed P (z, Some told)
other_named P z told h d cause code register e act = absurd (some_same (λ (d : Deed). d.act ≡ acts.Trap cause code register → ⊥) told d e (λ is. subst IsOther is h) act)

access_other : (a : Act) → IsAccess a → IsOther a
access_other (acts.Load address width value) h = tt
access_other (acts.Store address width value) h = tt
access_other (acts.Call export) h = absurd h
access_other (acts.Allocate number base long live) h = absurd h
access_other (acts.Free number base long live) h = absurd h
access_other (acts.Trap cause code register) h = absurd h

ends_named : (P : Trap → Type 0) (b : Platform) (s : State) (t : ℕ) (x : Cap) (r : Result Effect Trap) → IfDone r → ((why : Trap) → r ≡ Err why → P why) → TellsNamed P (instruction_end b s t x r)
ends_named P b s t x (Err why) acts_of h = trap_named P b s t why (h why refl)
ends_named P b s t x (Ok d) acts_of h = by d.act acts_of
  where
    by : (o : Option Act) → IfAccess o → TellsNamed P (put_done s t d, option_map (deed s t x.shadow.root) o)
    by None h = none_named P (put_done s t d)
    by (Some a) h = other_named P (put_done s t d) (deed s t x.shadow.root a) (access_other a h)

-- a routine tells no trap but as one
others_left : (i : Image) (s : State) (t n : ℕ) → n ≤ LAST_ROUTINE → (n ≡ RETURN → ⊥) → IfRan (Left (IfTold IsOther)) (native i s t n)
others_left i s t n few other = routines_left (IfTold IsOther) i s t n few other
    (record { tells = λ n. tt; enters = λ high. tt; stops = λ status. tt; wakes = λ address most. tt; hands = λ size r is. tt; gives = λ r c is. tt; seals = λ size key r is k. tt; opens = λ key r is. tt })

served_named : (P : Trap → Type 0) (b : Platform) (s : State) (t : ℕ) (o : Option Ran) → (o ≡ None → ⊥) → IfRan (Left (IfTold IsOther)) o → ((why : Trap) → o ≡ Some (Traps why) → P why) → TellsNamed P (served b s t o)
served_named P b s t None some h traps = absurd (some refl)
served_named P b s t (Some (Traps why)) some h traps = trap_named P b s t why (traps why refl)
served_named P b s t (Some (Leaves z None)) some h traps = none_named P z
served_named P b s t (Some (Leaves z (Some told))) some h traps = other_named P z (deed_told s t told) h

-- each number up to the last is of a routine
some_routine : (i : Image) (s : State) (t n : ℕ) → n ≤ LAST_ROUTINE → (n ≡ RETURN → ⊥) → native i s t n ≡ None → ⊥
some_routine i s t n few other = by_routine (λ (o : Option Ran). o ≡ None → ⊥) i s t n few other (record {
  switch = λ e. (let clash : Some (switch i s t) ≡ None = e in cc);
  yield = λ e. (let clash : Some (yield s t) ≡ None = e in cc);
  sleep = λ e. (let clash : Some (sleep s t) ≡ None = e in cc);
  wait = λ e. (let clash : Some (wait i s t) ≡ None = e in cc);
  wake = λ e. (let clash : Some (wake i s t) ≡ None = e in cc);
  allocate = λ e. (let clash : Some (allocate i s t) ≡ None = e in cc);
  free = λ e. (let clash : Some (free i s t) ≡ None = e in cc);
  remaining = λ e. (let clash : Some (remaining i s t) ≡ None = e in cc);
  token_key = λ e. (let clash : Some (token_key i s t) ≡ None = e in cc);
  token_new = λ e. (let clash : Some (token_new i s t) ≡ None = e in cc);
  token_open = λ e. (let clash : Some (token_open s t) ≡ None = e in cc);
  token_free = λ e. (let clash : Some (token_free i s t) ≡ None = e in cc);
})

-- ---- whole

module _ (b : Platform) (s : State) (t : ℕ) where
  abbrev NextNames : Next → Trap → Type 0
  NextNames n why = first_failed (next_checks b.image s t n) ≡ Some why

  next_named : TellsNamed (NextNames (next_at (space_of b s) (cap_address (thread s t).pcc))) (goes_on b s t (next_at (space_of b s) (cap_address (thread s t).pcc)))
  next_named = by_next (λ (n : Next). TellsNamed (NextNames n) (goes_on b s t n)) (space_of b s) (cap_address (thread s t).pcc)
      (none_named (NextNames Returning) (return_taken b.image s t (thread s t).frames))
      (λ k away read. ends_named (NextNames (Instruction k)) b s t (authority_of s t k) _
      (class_acts (class_of k) k (operands_of k).to (authority_of s t k) (value_of s t k) (named_by b.image (authority_of s t k)) (around b s t))
      (class_traps b s t (operands_of k).to (named_by b.image (authority_of s t k)) (class_of k) k))
      (λ n few other. served_named (NextNames (Native n)) b s t (native b.image s t n) (some_routine b.image s t n few other) (others_left b.image s t n few other) (native_traps b.image s t n other))
      (trap_named (NextNames Nothing) b s t (plain_trap ILLEGAL_INSTRUCTION) refl)

  executed_named : TellsNamed (λ why. first_failed (step_checks b s t) ≡ Some why) (executed b s t)
  unfolding executed
  executed_named = by (first_failed (fetch_checks (thread s t).pcc)) refl
    where
      by : (o : Option Trap) → first_failed (fetch_checks (thread s t).pcc) ≡ o → TellsNamed (λ why. first_failed (step_checks b s t) ≡ Some why) (after_fetch b s t o)
      by (Some why) is = trap_named (λ w. first_failed (step_checks b s t) ≡ Some w) b s t why (failed_left (fetch_checks (thread s t).pcc) (next_checks b.image s t (next_at (space_of b s) (cap_address (thread s t).pcc))) why is)
      by None is = λ d cause code register e act. failed_right (fetch_checks (thread s t).pcc) (next_checks b.image s t (next_at (space_of b s) (cap_address (thread s t).pcc))) is ∙ next_named d cause code register e act

-- ---- an event

step_named : (b : Platform) (s : State) (d : Deed) (cause code register : ℕ) → (stepped b s).1 ≡ Some d → d.act ≡ acts.Trap cause code register → FirstFails (step_checks b (ready b s) d.thread) (record { cause = cause; code = code; register = register })
step_named b s d cause code register e act = step_case (λ (r : State × Option Deed). r.1 ≡ Some d → FirstFails (step_checks b (ready b s) d.thread) (record { cause = cause; code = code; register = register })) b s
    (λ idle told. none_told d told)
    (λ t runs told. (let tells = executed_tells b (ready b s) t d told in
    subst (λ u. FirstFails (step_checks b (ready b s) u) (record { cause = cause; code = code; register = register })) (sym tells.thread)
    (first_fails (step_checks b (ready b s) t) (record { cause = cause; code = code; register = register }) (executed_named b (ready b s) t d cause code register told act))))
    e

pub traps_first : (b : Platform) (s : State) (e : Event) → TrapsFirst b s e
traps_first b s Step d cause code register is act = step_named b s d cause code register is act
traps_first b s Tick d cause code register is act = none_told d is
traps_first b s Sweep d cause code register is act = none_told d is
traps_first b s (Input n byte) d cause code register is act = none_told d is
