-- What holds of each move of a state by which a routine leaves it, and of what is told of it, holds of what the routine
-- leaves and tells.
use Rattle.std.proofs.Common.{ℕ, ◌≡◌, ◌-◌, ◌==◌, nat_lt, ◌≤◌, ◌⊎◌, inl, inr, List, length, Option, Some, None, refl, true, if◌then◌else◌}
use Rattle.std.specs.List.{list_any}
use Rattle.std.proofs.lemmas.Bool.{eqb-true}
use Rattle.law_lists.proofs.Tests.{chosen}
use Rattle.def_profile.specs.declared.native.TheConstants.{RETURN}
use Rattle.ct_entry.specs.declared.acts.Act.{Act}
use Rattle.ct_entry.specs.declared.acts.Act.TheVariants as acts
use Rattle.def_words.specs.declared.Cap.{Cap}
use Rattle.def_words.specs.declared.Trap.{Trap}
use Rattle.def_words.specs.Authority.{cap_address}
use Rattle.def_words.specs.Capability.{integer}
use Rattle.def_memory.specs.Accesses.{loaded}
use Rattle.def_sched.specs.declared.Status.{Status}
use Rattle.def_sched.specs.Statuses.{asleep, awaiting}
use Rattle.def_reach.specs.Roots.{compartment_of, gate_for}
use Rattle.def_machine.specs.Image.{Image, root, stack_base, frames_most}
use Rattle.def_machine.specs.State.{State, Object, thread, register}
use Rattle.def_machine.specs.Frames.{switched, callee_start, entered}
use Rattle.def_machine.specs.Heap.{with_object, object_cap}
use Rattle.def_machine.specs.Objects.{charges}
use Rattle.def_machine.specs.Registers.{with_thread}
use Rattle.def_machine.specs.Threads.{with_status}
use Rattle.def_step.specs.declared.TheConstants.{LAST_ROUTINE}
use Rattle.def_step.specs.Checks.{Check, first_failed}
use Rattle.def_step.specs.Native.{native}
use Rattle.def_step.specs.Quotas.{Allocation, Refused, Made, allocation, is_quota_cap, quota_in, by_quota, allocated, allocate, freed_as, free, whole_of, let_go, gives_back, remaining}
use Rattle.def_step.specs.Routines.{Ran, answered, answers, tells, code, checked, switched_to, switch, stops, yield, sleep, waits, wait, threads_woken, wake, word_checks}
use Rattle.def_step.specs.Switch.{Switched, TooDeep, NoStack, Enters, return_checks, switch_checks, called, new_top, with_room, past_checks, frame_top}
use Rattle.def_events.specs.Leaving.{Left, IfRan}
use Rattle.def_step.specs.Tokens.{is_key_row, with_row, sealed_token, opened_token, key_of, token_object, made_token, by_key, opens, frees_token, token_key, token_new, token_open, token_free}
use Rattle.law_routines.proofs.Cases.{Routines, by_routine}
use Rattle.law_routines.proofs.Objects.{Found, whole_found}
use Rattle.law_routines.proofs.Tokens.{key_says, token_found}

-- the thread stops running, with 0 as its answer and this status
abbrev pub stopped : State → ℕ → Status → State
stopped s t status = record (with_thread s t (with_status (answered (thread s t) (integer 0)) status)) { running = None }

-- the callee begins
abbrev pub entering : Image → State → ℕ → ℕ → ℕ → State
entering i s t export high = switched i s t high
    (entered i (thread s t) (compartment_of (root i export).owner) export high (callee_start i (thread s t) t (compartment_of (root i export).owner) export high))
    s.running

-- the deeds of a call, of an object that is handed out and of one that is given back, as they are told
abbrev pub call_told : State → ℕ → ℕ → ℕ × Act
call_told s t export = ((register (thread s t) 6).shadow.root, acts.Call export)

abbrev pub allocate_told : State → Object → ℕ × Act
allocate_told s r = (r.quota, acts.Allocate r.number r.base r.length (charges r.quota (with_object s r).objects))

abbrev pub free_told : Image → State → ℕ → Object → ℕ × Act
free_told i s t r = (r.quota, acts.Free r.number r.base r.length (charges r.quota (let_go i s t r).objects))

-- the key that a token's row names has a row
abbrev pub IsKeyOf : State → Option ℕ → Type 0
IsKeyOf s None = Unit {0}
IsKeyOf s (Some key) = list_any (is_key_row key) s.tokens ≡ true

-- an answer that is a number; a call; a stop; a wake; an object that is handed out, as it is or sealed; an object that is
-- given back; a token that is opened
pub record Moves (Q : State → Option (ℕ × Act) → Type 0) (i : Image) (s : State) (t : ℕ) : Type 0 where
  pub tells : (n : ℕ) → Q (answers s t (integer n)) None
  pub enters : (high : ℕ) → Q (entering i s t (called i.entries (thread s t)) high) (Some (call_told s t (called i.entries (thread s t))))
  pub stops : (status : Status) → Q (stopped s t status) None
  pub wakes : (address most : ℕ) → Q (threads_woken s t address most) None
  pub hands : (size : ℕ) (r : Object) → allocation i s (quota_in s t) size ≡ Made r → Q (answers (with_object s r) t (object_cap r)) (Some (allocate_told s r))
  pub gives : (r : Object) (c : Cap) → Found (quota_in s t) c s.objects r → Q (answers (let_go i s t r) t (integer 0)) (Some (free_told i s t r))
  pub seals : (size : ℕ) (key : Option ℕ) (r : Object) → allocation i s (quota_in s t) size ≡ Made r → IsKeyOf s key → Q (answers (with_object (with_row s r key) r) t (sealed_token r)) (Some (allocate_told (with_row s r key) r))
  pub opens : (key : ℕ) (r : Object) → token_object s key (register (thread s t) 11) ≡ Some r → Q (answers s t (opened_token (register (thread s t) 11))) None

pub option_tells : {A : Type 0} (o : Option A) → (o ≡ None) ⊎ ((x : A) × (o ≡ Some x))
option_tells None = inl refl
option_tells (Some x) = inr (x, refl)

pub checked_left : (Q : State → Option (ℕ × Act) → Type 0) (cs : List Check) (r : Ran) → Left Q r → Left Q (checked cs r)
checked_left Q cs r h = elim (option_tells (first_failed cs)) [
  | inl none ↦ rw none h
  | inr failed ↦ rw failed.1 tt
]

module _ (Q : State → Option (ℕ × Act) → Type 0) (i : Image) (s : State) (t : ℕ) where
  -- each by what it may do alone
  pub switch_left : ((n : ℕ) → Q (answers s t (integer n)) None) → ((high : ℕ) → Q (entering i s t (called i.entries (thread s t)) high) (Some (call_told s t (called i.entries (thread s t))))) → Left Q (switch i s t)
  switch_left answer enters = by_failed (first_failed (switch_checks (stack_base i t) (frame_top (thread s t).frames) (thread s t)))
    where
      by_failed : (o : Option Trap) → Left Q (switched_to i s t (past_checks i.entries (stack_base i t) (frames_most i t) (thread s t) o))
      by_failed (Some why) = tt
      by_failed None = chosen (λ (z : Switched). Left Q (switched_to i s t z)) (length (thread s t).frames == frames_most i t) TooDeep (with_room i.entries (stack_base i t) (new_top (stack_base i t) (cap_address (register (thread s t) 2))) (called i.entries (thread s t)))
          (λ is. answer (4294967296 - 12))
          (λ not. chosen (λ (z : Switched). Left Q (switched_to i s t z)) (nat_lt (new_top (stack_base i t) (cap_address (register (thread s t) 2)) - stack_base i t) (gate_for i.entries.gates (called i.entries (thread s t))).stack) NoStack (Enters (called i.entries (thread s t)) (new_top (stack_base i t) (cap_address (register (thread s t) 2))))
          (λ is. answer (4294967296 - 11))
          (λ fits. enters (new_top (stack_base i t) (cap_address (register (thread s t) 2)))))

  pub yield_left : ((status : Status) → Q (stopped s t status) None) → Left Q (yield s t)
  yield_left halts = checked_left Q (return_checks (register (thread s t) 1)) (stops s t (asleep 0)) (halts (asleep 0))

  pub sleep_left : ((status : Status) → Q (stopped s t status) None) → Left Q (sleep s t)
  sleep_left halts = checked_left Q (return_checks (register (thread s t) 1)) (stops s t (asleep (cap_address (register (thread s t) 10)))) (halts (asleep (cap_address (register (thread s t) 10))))

  pub wait_left : ((n : ℕ) → Q (answers s t (integer n)) None) → ((status : Status) → Q (stopped s t status) None) → Left Q (wait i s t)
  wait_left answer halts = checked_left Q (return_checks (register (thread s t) 1)) _ (checked_left Q (word_checks i s (register (thread s t) 10)) _
      (by_held (loaded s.granules (cap_address (register (thread s t) 10) - i.ram) 4)))
    where
      by_held : (held : ℕ) → Left Q (waits s t (cap_address (register (thread s t) 10)) held (cap_address (register (thread s t) 11)))
      by_held held = chosen (Left Q) (held == cap_address (register (thread s t) 11)) (stops s t (awaiting (cap_address (register (thread s t) 10)) held (cap_address (register (thread s t) 11)))) (tells s t (code 21))
          (λ is. halts (awaiting (cap_address (register (thread s t) 10)) held (cap_address (register (thread s t) 11))))
          (λ not. answer (4294967296 - 21))

  pub wake_left : ((address most : ℕ) → Q (threads_woken s t address most) None) → Left Q (wake i s t)
  wake_left woke = checked_left Q (return_checks (register (thread s t) 1)) _ (checked_left Q (word_checks i s (register (thread s t) 10)) _ (woke (cap_address (register (thread s t) 10)) (cap_address (register (thread s t) 11))))

  quota_left : (r : Ran) → ((n : ℕ) → Q (answers s t (integer n)) None) → Left Q r → Left Q (by_quota s t r)
  quota_left r answer h = checked_left Q (return_checks (register (thread s t) 1)) (if is_quota_cap (register (thread s t) 10) then r else tells s t (code 1))
      (chosen (Left Q) (is_quota_cap (register (thread s t) 10)) r (tells s t (code 1)) (λ is. h) (λ not. answer (4294967296 - 1)))

  pub allocate_left : ((n : ℕ) → Q (answers s t (integer n)) None) → ((size : ℕ) (r : Object) → allocation i s (quota_in s t) size ≡ Made r → Q (answers (with_object s r) t (object_cap r)) (Some (allocate_told s r))) → Left Q (allocate i s t)
  allocate_left answer hands = quota_left _ answer (by_made (cap_address (register (thread s t) 11)) (allocation i s (quota_in s t) (cap_address (register (thread s t) 11))) refl)
    where
      by_made : (size : ℕ) (a : Allocation) → allocation i s (quota_in s t) size ≡ a → Left Q (allocated s t a)
      by_made size (Refused n) is = answer (4294967296 - n)
      by_made size (Made r) is = hands size r is

  pub free_left : ((n : ℕ) → Q (answers s t (integer n)) None) → ((r : Object) (c : Cap) → Found (quota_in s t) c s.objects r → Q (answers (let_go i s t r) t (integer 0)) (Some (free_told i s t r))) → Left Q (free i s t)
  free_left answer gives = quota_left _ answer (by_found (whole_of s.objects (quota_in s t) (register (thread s t) 11)) refl)
    where
      by_found : (o : Option Object) → whole_of s.objects (quota_in s t) (register (thread s t) 11) ≡ o → Left Q (freed_as i s t o)
      by_found None is = answer (4294967296 - 6)
      by_found (Some r) is = gives r (register (thread s t) 11) (whole_found s.objects (quota_in s t) (register (thread s t) 11) r is)

  pub remaining_left : ((n : ℕ) → Q (answers s t (integer n)) None) → Left Q (remaining i s t)
  remaining_left answer = quota_left _ answer (answer ((root i (quota_in s t)).limit - charges (quota_in s t) s.objects))

  made_left : (size : ℕ) (key : Option ℕ) (a : Allocation) → ((n : ℕ) → Q (answers s t (integer n)) None) → ((r : Object) → a ≡ Made r → Q (answers (with_object (with_row s r key) r) t (sealed_token r)) (Some (allocate_told (with_row s r key) r))) → Left Q (made_token s t key a)
  made_left size key (Refused n) answer seals = answer (4294967296 - n)
  made_left size key (Made r) answer seals = seals r refl

  pub token_key_left : ((n : ℕ) → Q (answers s t (integer n)) None) → ((r : Object) → allocation i s (quota_in s t) 8 ≡ Made r → Q (answers (with_object (with_row s r None) r) t (sealed_token r)) (Some (allocate_told (with_row s r None) r))) → Left Q (token_key i s t)
  token_key_left answer seals = quota_left _ answer (made_left 8 None (allocation i s (quota_in s t) 8) answer seals)

  by_key_left : (o : Option Object) (ran : ℕ → Ran) → ((n : ℕ) → Q (answers s t (integer n)) None) → ((k : Object) → o ≡ Some k → Left Q (ran k.number)) → Left Q (by_key s t o ran)
  by_key_left None ran answer h = answer (4294967296 - 7)
  by_key_left (Some k) ran answer h = h k refl

  pub token_new_left : ((n : ℕ) → Q (answers s t (integer n)) None) → ((size key : ℕ) (r : Object) → allocation i s (quota_in s t) size ≡ Made r → IsKeyOf s (Some key) → Q (answers (with_object (with_row s r (Some key)) r) t (sealed_token r)) (Some (allocate_told (with_row s r (Some key)) r))) → Left Q (token_new i s t)
  token_new_left answer seals = quota_left _ answer (by_key_left (key_of s (register (thread s t) 12)) _ answer
      (λ k is. made_left (cap_address (register (thread s t) 11)) (Some k.number) (allocation i s (quota_in s t) (cap_address (register (thread s t) 11))) answer
      (λ r made. seals (cap_address (register (thread s t) 11)) k.number r made (key_says s (register (thread s t) 12) k is))))

  pub token_open_left : ((n : ℕ) → Q (answers s t (integer n)) None) → ((key : ℕ) (r : Object) → token_object s key (register (thread s t) 11) ≡ Some r → Q (answers s t (opened_token (register (thread s t) 11))) None) → Left Q (token_open s t)
  token_open_left answer open_ = checked_left Q (return_checks (register (thread s t) 1)) _ (by_key_left (key_of s (register (thread s t) 10)) _ answer
      (λ k is. by_found k.number (token_object s k.number (register (thread s t) 11)) refl))
    where
      by_found : (key : ℕ) (o : Option Object) → token_object s key (register (thread s t) 11) ≡ o → Left Q (opens s t (register (thread s t) 11) o)
      by_found key None is = answer (4294967296 - 8)
      by_found key (Some r) is = open_ key r is

  pub token_free_left : ((n : ℕ) → Q (answers s t (integer n)) None) → ((r : Object) (c : Cap) → Found (quota_in s t) c s.objects r → Q (answers (let_go i s t r) t (integer 0)) (Some (free_told i s t r))) → Left Q (token_free i s t)
  token_free_left answer gives = quota_left _ answer (by_key_left (key_of s (register (thread s t) 11)) _ answer
      (λ k is. by_found k.number (token_object s k.number (register (thread s t) 12)) refl))
    where
      by_found : (key : ℕ) (o : Option Object) → token_object s key (register (thread s t) 12) ≡ o → Left Q (frees_token i s t (quota_in s t) o)
      by_found key None is = answer (4294967296 - 8)
      by_found key (Some r) is = chosen (Left Q) (r.quota == quota_in s t) (gives_back i s t r) (tells s t (code 6))
          (λ same. gives r (register (thread s t) 12) (token_found s key (register (thread s t) 12) r (quota_in s t) is (eqb-true r.quota (quota_in s t) same)))
          (λ other. answer (4294967296 - 6))

  pub each_left : Moves Q i s t → Routines (Left Q) i s t
  each_left m = record {
    switch = switch_left m.tells m.enters;
    yield = yield_left m.stops;
    sleep = sleep_left m.stops;
    wait = wait_left m.tells m.stops;
    wake = wake_left m.wakes;
    allocate = allocate_left m.tells m.hands;
    free = free_left m.tells m.gives;
    remaining = remaining_left m.tells;
    token_key = token_key_left m.tells (λ r is. m.seals 8 None r is tt);
    token_new = token_new_left m.tells (λ size key r is k. m.seals size (Some key) r is k);
    token_open = token_open_left m.tells m.opens;
    token_free = token_free_left m.tells m.gives;
  }

pub routines_left : (Q : State → Option (ℕ × Act) → Type 0) (i : Image) (s : State) (t n : ℕ) → n ≤ LAST_ROUTINE → (n ≡ RETURN → ⊥) → Moves Q i s t → IfRan (Left Q) (native i s t n)
routines_left Q i s t n few other m =
    let each = each_left Q i s t m in
    by_routine (IfRan (Left Q)) i s t n few other
    (record { switch = each.switch; yield = each.yield; sleep = each.sleep; wait = each.wait; wake = each.wake; allocate = each.allocate; free = each.free; remaining = each.remaining; token_key = each.token_key; token_new = each.token_new; token_open = each.token_open; token_free = each.token_free })
