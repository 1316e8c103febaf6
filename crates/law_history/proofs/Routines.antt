-- What holds of each move of a state by which a step of a thread leaves it, with what its routine found and what it tells,
-- holds of what the step leaves and tells.
use Rattle.std.proofs.Common.{ℕ, ◌≡◌, ◌-◌, ◌==◌, ◌≤◌, inl, inr, nat_lt, true, List, ◌∷◌, length, Option, Some, None, Ok, Err, Result, refl, ap, ◌∙◌, if◌then◌else◌}
use Rattle.law_lists.proofs.Tests.{chosen}
use Rattle.def_profile.specs.declared.answers.TheConstants.{UNWOUND}
use Rattle.def_native.specs.declared.TheConstants.{TOKEN_OPEN}
use Rattle.def_profile.specs.declared.native.TheConstants.{RETURN}
use Rattle.def_profile.specs.declared.traps.TheConstants.{ILLEGAL_INSTRUCTION}
use Rattle.ct_entry.specs.declared.acts.Act.{Act}
use Rattle.ct_entry.specs.declared.acts.Act.TheVariants as acts
use Rattle.ct_entry.specs.declared.acts.Deed.{Deed}
use Rattle.std.specs.Prelude.{option_map}
use Rattle.def_words.specs.declared.Cap.{Cap}
use Rattle.def_words.specs.declared.Trap.{Trap}
use Rattle.def_words.specs.Authority.{cap_address}
use Rattle.def_words.specs.Capability.{integer}
use Rattle.def_words.specs.Traps.{plain_trap}
use Rattle.def_instr.specs.declared.Instr.{Instr}
use Rattle.def_sched.specs.declared.Status.{Status}
use Rattle.def_reach.specs.Roots.{gate_for}
use Rattle.def_machine.specs.Platform.{Platform}
use Rattle.def_machine.specs.Image.{Image, stack_base, frames_most}
use Rattle.def_machine.specs.State.{State, Frame, Object, thread, register}
use Rattle.def_machine.specs.Frames.{ended_with, returned}
use Rattle.def_machine.specs.Heap.{with_object, object_cap}
use Rattle.def_safety.specs.Clean.{high_of}
use Rattle.def_safety.specs.Routine.{RunsRoutine}
use Rattle.def_step.specs.declared.Next.{Next}
use Rattle.def_step.specs.declared.Next.TheVariants.{Instruction, Native}
use Rattle.def_step.specs.declared.TheConstants.{LAST_ROUTINE}
use Rattle.def_step.specs.Checks.{Check, first_failed}
use Rattle.def_step.specs.Handlers.{is_handled, handler_entered, handler_value}
use Rattle.def_step.specs.Instructions.{Effect, space_of, put_done, deed, deed_told, instruction_end, operand, trapped, goes_on, after_fetch, executed, fetch_checks, next_at, served}
use Rattle.def_step.specs.Native.{native}
use Rattle.def_step.specs.Operands.{operands_of}
use Rattle.def_step.specs.Quotas.{Allocation, Refused, Made, allocation, is_quota_cap, quota_in, by_quota, allocated, allocate, freed_as, free, whole_of, let_go, gives_back}
use Rattle.def_step.specs.Routines.{Ran, Traps, Leaves, answers, tells, code, checked, switched_to, switch, threads_woken}
use Rattle.def_step.specs.Switch.{Switched, TooDeep, NoStack, Enters, return_checks, switch_checks, called, with_room, past_checks, frame_top}
use Rattle.def_step.specs.Tokens.{with_row, sealed_token, opened_token, key_of, token_object, made_token, by_key, opens, frees_token, token_key, token_new, token_open, token_free}
use Rattle.def_events.specs.Leaving.{Left, IfRan}
use Rattle.law_routines.proofs.Cases.{by_next}
use Rattle.law_history.proofs.Numbered.{by_number}
use Rattle.law_routines.proofs.Leaving.{stopped, entering, call_told, IsKeyOf, option_tells, checked_left, yield_left, sleep_left, wait_left, wake_left, remaining_left}
use Rattle.law_routines.proofs.Tokens.{key_says}
use Rattle.law_routines.proofs.Stepping.{IfDone, carried, trap_case, return_case}

-- as law_routines has them, with what is told, but a call with its checks that passed, a free with what was found, and a
-- token that is opened with its key, where the routine is token_open, by At, and its checks passed; of what a routine of the
-- heap tells nothing is asked
pub record Deals (At : Type 0) (Q : State → Option (ℕ × Act) → Type 0) (i : Image) (s : State) (t : ℕ) : Type 0 where
  pub tells : (n : ℕ) → Q (answers s t (integer n)) None
  pub enters : first_failed (switch_checks (stack_base i t) (frame_top (thread s t).frames) (thread s t)) ≡ None → Q (entering i s t (called i.entries (thread s t)) (high_of i s t)) (Some (call_told s t (called i.entries (thread s t))))
  pub stops : (status : Status) → Q (stopped s t status) None
  pub wakes : (address most : ℕ) → Q (threads_woken s t address most) None
  pub hands : is_quota_cap (register (thread s t) 10) ≡ true → (size : ℕ) (r : Object) → allocation i s (quota_in s t) size ≡ Made r → (o : Option (ℕ × Act)) → Q (answers (with_object s r) t (object_cap r)) o
  pub frees : (r : Object) → whole_of s.objects (quota_in s t) (register (thread s t) 11) ≡ Some r → (o : Option (ℕ × Act)) → Q (answers (let_go i s t r) t (integer 0)) o
  pub gives : (key : ℕ) (r : Object) → token_object s key (register (thread s t) 12) ≡ Some r → (o : Option (ℕ × Act)) → Q (answers (let_go i s t r) t (integer 0)) o
  pub seals : is_quota_cap (register (thread s t) 10) ≡ true → (size : ℕ) (key : Option ℕ) (r : Object) → allocation i s (quota_in s t) size ≡ Made r → IsKeyOf s key → (o : Option (ℕ × Act)) → Q (answers (with_object (with_row s r key) r) t (sealed_token r)) o
  pub opens : At → first_failed (return_checks (register (thread s t) 1)) ≡ None → (k r : Object) → key_of s (register (thread s t) 10) ≡ Some k → token_object s k.number (register (thread s t) 11) ≡ Some r → Q (answers s t (opened_token (register (thread s t) 11))) None

-- what comes after checks that passed
passed_left : (Q : State → Option (ℕ × Act) → Type 0) (cs : List Check) (r : Ran) → (first_failed cs ≡ None → Left Q r) → Left Q (checked cs r)
passed_left Q cs r h = elim (option_tells (first_failed cs)) [
  | inl none ↦ rw none (h none)
  | inr failed ↦ rw failed.1 tt
]

module _ (At : Type 0) (Q : State → Option (ℕ × Act) → Type 0) (i : Image) (s : State) (t : ℕ) (d : Deals At Q i s t) where
  -- at the switch
  switched_left : Left Q (switch i s t)
  switched_left = by_failed (first_failed (switch_checks (stack_base i t) (frame_top (thread s t).frames) (thread s t))) refl
    where
      by_failed : (o : Option Trap) → first_failed (switch_checks (stack_base i t) (frame_top (thread s t).frames) (thread s t)) ≡ o → Left Q (switched_to i s t (past_checks i.entries (stack_base i t) (frames_most i t) (thread s t) o))
      by_failed (Some why) e = tt
      by_failed None e = chosen (λ (z : Switched). Left Q (switched_to i s t z)) (length (thread s t).frames == frames_most i t) TooDeep (with_room i.entries (stack_base i t) (high_of i s t) (called i.entries (thread s t)))
          (λ is. d.tells (4294967296 - 12))
          (λ not. chosen (λ (z : Switched). Left Q (switched_to i s t z)) (nat_lt (high_of i s t - stack_base i t) (gate_for i.entries.gates (called i.entries (thread s t))).stack) NoStack (Enters (called i.entries (thread s t)) (high_of i s t))
          (λ is. d.tells (4294967296 - 11))
          (λ fits. d.enters e))

  charged_left : (r : Ran) → (is_quota_cap (register (thread s t) 10) ≡ true → Left Q r) → Left Q (by_quota s t r)
  charged_left r h = checked_left Q (return_checks (register (thread s t) 1)) (if is_quota_cap (register (thread s t) 10) then r else tells s t (code 1))
      (chosen (Left Q) (is_quota_cap (register (thread s t) 10)) r (tells s t (code 1)) h (λ not. d.tells (4294967296 - 1)))

  freed_left : Left Q (free i s t)
  freed_left = charged_left _ (λ quota. by_found (whole_of s.objects (quota_in s t) (register (thread s t) 11)) refl)
    where
      by_found : (o : Option Object) → whole_of s.objects (quota_in s t) (register (thread s t) 11) ≡ o → Left Q (freed_as i s t o)
      by_found None is = d.tells (4294967296 - 6)
      by_found (Some r) is = d.frees r is _

  keyed_left : (o : Option Object) (ran : ℕ → Ran) → ((k : Object) → o ≡ Some k → Left Q (ran k.number)) → Left Q (by_key s t o ran)
  keyed_left None ran h = d.tells (4294967296 - 7)
  keyed_left (Some k) ran h = h k refl

  allocated_left : Left Q (allocate i s t)
  allocated_left = charged_left _ (λ quota. by_made quota (cap_address (register (thread s t) 11)) (allocation i s (quota_in s t) (cap_address (register (thread s t) 11))) refl)
    where
      by_made : is_quota_cap (register (thread s t) 10) ≡ true → (size : ℕ) (a : Allocation) → allocation i s (quota_in s t) size ≡ a → Left Q (allocated s t a)
      by_made quota size (Refused n) is = d.tells (4294967296 - n)
      by_made quota size (Made r) is = d.hands quota size r is _

  sealed_left : is_quota_cap (register (thread s t) 10) ≡ true → (size : ℕ) (key : Option ℕ) → IsKeyOf s key → (a : Allocation) → allocation i s (quota_in s t) size ≡ a → Left Q (made_token s t key a)
  sealed_left quota size key named (Refused n) is = d.tells (4294967296 - n)
  sealed_left quota size key named (Made r) is = d.seals quota size key r is named _

  key_left : Left Q (token_key i s t)
  key_left = charged_left _ (λ quota. sealed_left quota 8 None tt (allocation i s (quota_in s t) 8) refl)

  token_left : Left Q (token_new i s t)
  token_left = charged_left _ (λ quota. keyed_left (key_of s (register (thread s t) 12)) _
      (λ k is. sealed_left quota (cap_address (register (thread s t) 11)) (Some k.number) (key_says s (register (thread s t) 12) k is) (allocation i s (quota_in s t) (cap_address (register (thread s t) 11))) refl))

  opened_left : At → Left Q (token_open s t)
  opened_left at = passed_left Q (return_checks (register (thread s t) 1)) _ (λ returns. keyed_left (key_of s (register (thread s t) 10)) _
      (λ k is. by_found returns k is (token_object s k.number (register (thread s t) 11)) refl))
    where
      by_found : first_failed (return_checks (register (thread s t) 1)) ≡ None → (k : Object) → key_of s (register (thread s t) 10) ≡ Some k → (o : Option Object) → token_object s k.number (register (thread s t) 11) ≡ o → Left Q (opens s t (register (thread s t) 11) o)
      by_found returns k key None is = d.tells (4294967296 - 8)
      by_found returns k key (Some r) is = d.opens at returns k r key is

  given_left : Left Q (token_free i s t)
  given_left = charged_left _ (λ quota. keyed_left (key_of s (register (thread s t) 11)) _
      (λ k is. by_found k.number (token_object s k.number (register (thread s t) 12)) refl))
    where
      by_found : (key : ℕ) (o : Option Object) → token_object s key (register (thread s t) 12) ≡ o → Left Q (frees_token i s t (quota_in s t) o)
      by_found key None is = d.tells (4294967296 - 8)
      by_found key (Some r) is = chosen (Left Q) (r.quota == quota_in s t) (gives_back i s t r) (tells s t (code 6))
          (λ same. d.gives key r is _)
          (λ other. d.tells (4294967296 - 6))

  pub routines_dealt : (n : ℕ) → n ≤ LAST_ROUTINE → (n ≡ RETURN → ⊥) → (n ≡ TOKEN_OPEN → At) → IfRan (Left Q) (native i s t n)
  routines_dealt n few other = by_number (λ m o. (m ≡ TOKEN_OPEN → At) → IfRan (Left Q) o) i s t n few other (record {
    switch = λ at. switched_left;
    yield = λ at. yield_left Q i s t d.stops;
    sleep = λ at. sleep_left Q i s t d.stops;
    wait = λ at. wait_left Q i s t d.tells d.stops;
    wake = λ at. wake_left Q i s t d.wakes;
    allocate = λ at. allocated_left;
    free = λ at. freed_left;
    remaining = λ at. remaining_left Q i s t d.tells;
    token_key = λ at. key_left;
    token_new = λ at. token_left;
    token_open = λ at. opened_left (at refl);
    token_free = λ at. given_left;
  })

-- ---- a step

-- what is asked of what an instruction with an effect leaves and tells
abbrev pub IfEffect : (State → Option Deed → Type 0) → State → ℕ → Cap → Result Effect Trap → Type 0
IfEffect Q s t x (Err why) = Unit {0}
IfEffect Q s t x (Ok d) = Q (put_done s t d) (option_map (deed s t x.shadow.root) d.act)

abbrev pub Both : (State → Option Deed → Type 0) → State × Option Deed → Type 0
Both Q r = Q r.0 r.1

-- the fetch of thread t passes its checks
abbrev pub MayFetch : State → ℕ → Type 0
MayFetch s t = first_failed (fetch_checks (thread s t).pcc) ≡ None

-- the deed of a trap
abbrev pub trap_told : State → ℕ → Trap → Option Deed
trap_told s t why = Some (deed s t 0 (acts.Trap why.cause why.code why.register))

-- a handler that is entered, a frame that ends with a value, one that returns, an instruction that stands at the program
-- counter, and what routines do; with what each tells, as far as it is asked
pub record Goes (Q : State → Option Deed → Type 0) (b : Platform) (s : State) (t : ℕ) : Type 0 where
  pub handles : (why : Trap) (f : Frame) (fs : List Frame) → (thread s t).frames ≡ f ∷ fs → is_handled b.image (stack_base b.image t) (thread s t) f ≡ true → Q (handler_entered b.image s t why f fs) (trap_told s t why)
  pub ends : (value : ℕ) (o : Option Deed) → Q (ended_with b.image s t value (thread s t).frames) o
  pub back : Q (returned b.image s t (thread s t).frames) None
  pub done : (k : Instr) → next_at (space_of b s) (cap_address (thread s t).pcc) ≡ Instruction k → IfDone (λ z. (o : Option Deed) → Q z o) s t (carried b s t k)
  pub deals : Deals (s.running ≡ Some t → RunsRoutine b s t TOKEN_OPEN) (λ z o. Q z (option_map (deed_told s t) o)) b.image s t

abbrev Comes : (State → Option Deed → Type 0) → State × Option Deed → Type 0
Comes Q r = Q r.0 r.1

module _ (Q : State → Option Deed → Type 0) (b : Platform) (s : State) (t : ℕ) (m : Goes Q b s t) where
  trapped_goes : (why : Trap) → Comes Q (trapped b s t why)
  trapped_goes why = trap_case (λ z. Q z (trap_told s t why)) b.image s t why (thread s t).frames (λ f fs frames is. m.handles why f fs frames is) (m.ends UNWOUND (trap_told s t why))

  result_goes : (k : Instr) (r : Result Effect Trap) → IfDone (λ z. (o : Option Deed) → Q z o) s t r → Comes Q (instruction_end b s t (operand s t (operands_of k).first) r)
  result_goes k (Err why) h = trapped_goes why
  result_goes k (Ok d) h = h (option_map (deed s t (operand s t (operands_of k).first).shadow.root) d.act)

  served_goes : (o : Option Ran) → IfRan (Left (λ z told. Q z (option_map (deed_told s t) told))) o → Comes Q (served b s t o)
  served_goes None h = trapped_goes (plain_trap ILLEGAL_INSTRUCTION)
  served_goes (Some (Traps why)) h = trapped_goes why
  served_goes (Some (Leaves after told)) h = h

  next_goes : first_failed (fetch_checks (thread s t).pcc) ≡ None → Comes Q (goes_on b s t (next_at (space_of b s) (cap_address (thread s t).pcc)))
  next_goes fetched = by_next (λ (n : Next). next_at (space_of b s) (cap_address (thread s t).pcc) ≡ n → Comes Q (goes_on b s t n)) (space_of b s) (cap_address (thread s t).pcc)
      (λ at. return_case (λ z. Q z None) b.image s t (thread s t).frames (λ f fs frames is. m.ends (handler_value (thread s t)) None) (λ plain_one. m.back))
      (λ k away read at. result_goes k (carried b s t k) (m.done k at))
      (λ n few other at. served_goes (native b.image s t n) (routines_dealt (s.running ≡ Some t → RunsRoutine b s t TOKEN_OPEN) (λ z told. Q z (option_map (deed_told s t) told)) b.image s t m.deals n few other
      (λ is runs. record { runs = runs; fetched = fetched; routine = at ∙ ap (λ k. Native k) is })))
      (λ at. trapped_goes (plain_trap ILLEGAL_INSTRUCTION))
      refl

  pub executed_goes : Comes Q (executed b s t)
  unfolding executed
  executed_goes = by (first_failed (fetch_checks (thread s t).pcc)) refl
    where
      by : (o : Option Trap) → first_failed (fetch_checks (thread s t).pcc) ≡ o → Comes Q (after_fetch b s t o)
      by (Some why) e = trapped_goes why
      by None e = next_goes e
