-- What told the deed of a step: a routine, an access or a trap.
use Rattle.std.proofs.Common.{ℕ, ◌≡◌, ◌≤◌, ◌⊎◌, inl, inr, Option, Some, None, Result, Ok, Err, refl, option_map}
use Rattle.std.specs.Prelude.{is_some}
use Rattle.law_lists.proofs.Tests.{chosen}
use Rattle.ct_entry.specs.declared.acts.Act.{Act}
use Rattle.ct_entry.specs.declared.acts.Act.TheVariants as acts
use Rattle.ct_entry.specs.declared.acts.Deed.{Deed}
use Rattle.def_native.specs.declared.TheConstants.{ALLOCATE, TOKEN_KEY, TOKEN_NEW}
use Rattle.def_profile.specs.declared.native.TheConstants.{RETURN}
use Rattle.def_words.specs.declared.Cap.{Cap}
use Rattle.def_words.specs.declared.Trap.{Trap}
use Rattle.def_words.specs.Authority.{cap_address}
use Rattle.def_words.specs.Traps.{plain_trap}
use Rattle.def_profile.specs.declared.traps.TheConstants.{ILLEGAL_INSTRUCTION}
use Rattle.def_instr.specs.declared.Instr.{Instr}
use Rattle.def_machine.specs.State.{State, thread}
use Rattle.def_step.specs.Handlers.{return_taken, trap_taken}
use Rattle.def_step.specs.declared.Access.{Access}
use Rattle.def_step.specs.declared.Class.{Class}
use Rattle.def_step.specs.declared.Class.TheVariants as class
use Rattle.def_step.specs.declared.Next.{Next}
use Rattle.def_step.specs.declared.TheConstants.{LAST_ROUTINE}
use Rattle.law_routines.proofs.Accesses.{by_access}
use Rattle.def_step.specs.Accesses.{MemoryAndDevices, access_of, access_address, access_checks, access_result, accessed, deed_at, unless}
use Rattle.def_step.specs.Checks.{first_failed}
use Rattle.def_step.specs.Devices.{found}
use Rattle.def_step.specs.Jumps.{Flowed}
use Rattle.def_step.specs.Operands.{operands_of, class_of}
use Rattle.def_step.specs.Instructions.{Effect, Context, carried_out, named_by, flows, accesses, around, space_of, deed, deed_told, trapped, put_done, instruction_end, operand, goes_on, after_fetch, executed, fetch_checks, next_at, ran, served}
use Rattle.def_machine.specs.Platform.{Platform}
use Rattle.def_step.specs.Native.{native}
use Rattle.def_step.specs.Quotas.{allocate, free, remaining}
use Rattle.def_step.specs.Routines.{Ran, Traps, Leaves, switch, yield, sleep, wait, wake}
use Rattle.def_step.specs.Tokens.{token_key, token_new, token_open, token_free}
use Rattle.law_events.proofs.Fairness.{some_same}
use Rattle.def_events.specs.Leaving.{Left}
use Rattle.def_safety.specs.Routine.{RunsRoutine}
use Rattle.law_history.proofs.Numbered.{by_number}
use Rattle.law_routines.proofs.Cases.{by_next}
use Rattle.law_routines.proofs.Leaving.{switch_left, yield_left, sleep_left, wait_left, wake_left, allocate_left, free_left, remaining_left, token_key_left, token_new_left, token_open_left, token_free_left}

-- thread t, if it runs, stands at a routine
abbrev pub AtRoutine : Platform → State → ℕ → ℕ → Type 0
AtRoutine b s t n = s.running ≡ Some t → RunsRoutine b s t n

-- which routine of thread t told an act, and left a state
abbrev pub ToldBy : Platform → State → ℕ → State → ℕ → Act → Type 0
ToldBy b s t z entry (acts.Call export) = switch b.image s t ≡ Leaves z (Some (entry, acts.Call export))
ToldBy b s t z entry (acts.Allocate number base long live) =
    let told : Ran = Leaves z (Some (entry, acts.Allocate number base long live)) in
    (AtRoutine b s t ALLOCATE × (allocate b.image s t ≡ told))
    ⊎ ((AtRoutine b s t TOKEN_KEY × (token_key b.image s t ≡ told)) ⊎ (AtRoutine b s t TOKEN_NEW × (token_new b.image s t ≡ told)))
ToldBy b s t z entry (acts.Free number base long live) =
    let told : Ran = Leaves z (Some (entry, acts.Free number base long live)) in
    (free b.image s t ≡ told) ⊎ (token_free b.image s t ≡ told)
ToldBy b s t z entry (acts.Trap cause code register) = z ≡ trap_taken b.image s t (record { cause = cause; code = code; register = register }) (thread s t).frames
ToldBy b s t z entry (acts.Load address width value) = Unit {0}
ToldBy b s t z entry (acts.Store address width value) = Unit {0}

-- a deed of thread t
pub record Tells (b : Platform) (s : State) (t : ℕ) (z : State) (d : Deed) : Type 0 where
  pub thread : d.thread ≡ t
  pub by : ToldBy b s t z d.entry d.act

abbrev TellsAll : Platform → State → ℕ → State × Option Deed → Type 0
TellsAll b s t r = (d : Deed) → r.1 ≡ Some d → Tells b s t r.0 d

none_tells : (b : Platform) (s : State) (t : ℕ) (z : State) → TellsAll b s t (z, None)
none_tells b s t z d e = absurd (let clash : None ≡ Some d = e in cc)

trap_tells : (b : Platform) (s : State) (t : ℕ) (why : Trap) → TellsAll b s t (trapped b s t why)
trap_tells b s t why d e = some_same (Tells b s t (trap_taken b.image s t why (thread s t).frames)) (deed s t 0 (acts.Trap why.cause why.code why.register)) d e (record { thread = refl; by = refl })

-- ---- instructions tell loads and stores alone

abbrev pub IsAccess : Act → Type 0
IsAccess (acts.Load address width value) = Unit {0}
IsAccess (acts.Store address width value) = Unit {0}
IsAccess _ = ⊥

abbrev pub IfAccess : Option Act → Type 0
IfAccess None = Unit {0}
IfAccess (Some a) = IsAccess a

abbrev pub IfDone : Result Effect Trap → Type 0
IfDone (Err w) = Unit {0}
IfDone (Ok d) = IfAccess d.act

device_acts : (p : MemoryAndDevices) (at : ℕ) (a : Act) → IsAccess a → IfAccess (deed_at p at a)
device_acts p at a h = chosen IfAccess (is_some (found p.bank.bases at)) (Some a) None (λ is. h) (λ not. tt)

accessed_acts : (a : Access) (x y : Cap) (at : ℕ) (p : MemoryAndDevices) → IfAccess (accessed a x y at p).act
accessed_acts a x y at p = by_access (λ m. IfAccess m.act) a x y at p
    (record { loads = λ ram loads. tt; stores = λ ram stores. tt; reads = λ loads. device_acts p at _ tt; writes = λ stores. device_acts p at _ tt })

access_acts : (a : Context) (to : ℕ) (k : Instr) (x y : Cap) (p : MemoryAndDevices) → IfDone (accesses a to (access_result k x y p))
unfolding access_result
access_acts a to k x y p = by (first_failed (access_checks (access_of k) x y (access_address (access_of k) x)))
  where
    by : (o : Option Trap) → IfDone (accesses a to (unless o (accessed (access_of k) x y (access_address (access_of k) x) p)))
    by None = accessed_acts (access_of k) x y (access_address (access_of k) x) p
    by (Some w) = tt

flow_acts : (a : Context) (to : ℕ) (r : Result Flowed Trap) → IfDone (flows a to r)
flow_acts a to (Err w) = tt
flow_acts a to (Ok j) = tt

pub class_acts : (c : Class) (k : Instr) (to : ℕ) (x y : Cap) (named : ℕ) (a : Context) → IfDone (carried_out c k to x y named a)
class_acts class.Integer k to x y named a = tt
class_acts class.Capability k to x y named a = tt
class_acts class.System k to x y named a = tt
class_acts class.Jump k to x y named a = flow_acts a to _
class_acts class.Access k to x y named a = access_acts a to k x y a.space
class_acts class.Fence k to x y named a = tt
class_acts class.Call k to x y named a = tt
class_acts class.Break k to x y named a = tt

access_told : (b : Platform) (s : State) (t : ℕ) (z : State) (entry : ℕ) (a : Act) → IsAccess a → ToldBy b s t z entry a
access_told b s t z entry (acts.Load address width value) h = tt
access_told b s t z entry (acts.Store address width value) h = tt
access_told b s t z entry (acts.Call export) h = absurd h
access_told b s t z entry (acts.Allocate number base long live) h = absurd h
access_told b s t z entry (acts.Free number base long live) h = absurd h
access_told b s t z entry (acts.Trap cause code register) h = absurd h

ends_tells : (b : Platform) (s : State) (t : ℕ) (x : Cap) (r : Result Effect Trap) → IfDone r → TellsAll b s t (instruction_end b s t x r)
ends_tells b s t x (Err why) h = trap_tells b s t why
ends_tells b s t x (Ok d) h = by d.act h
  where
    by : (o : Option Act) → IfAccess o → TellsAll b s t (put_done s t d, option_map (deed s t x.shadow.root) o)
    by None h = none_tells b s t (put_done s t d)
    by (Some a) h = λ e is. some_same (Tells b s t (put_done s t d)) (deed s t x.shadow.root a) e is (record { thread = refl; by = access_told b s t (put_done s t d) x.shadow.root a h })

-- ---- each routine tells acts of its own alone

abbrev pub IfTold : (Act → Type 0) → State → Option (ℕ × Act) → Type 0
IfTold P z None = Unit {0}
IfTold P z (Some told) = P told.1

abbrev IsCall : Act → Type 0
IsCall (acts.Call export) = Unit {0}
IsCall _ = ⊥

abbrev IsAllocate : Act → Type 0
IsAllocate (acts.Allocate number base long live) = Unit {0}
IsAllocate _ = ⊥

abbrev IsFree : Act → Type 0
IsFree (acts.Free number base long live) = Unit {0}
IsFree _ = ⊥

abbrev IsNone : Act → Type 0
IsNone a = ⊥

call_by : (b : Platform) (s : State) (t : ℕ) (z : State) (entry : ℕ) (a : Act) → IsCall a → switch b.image s t ≡ Leaves z (Some (entry, a)) → ToldBy b s t z entry a
call_by b s t z entry (acts.Call export) h e = e
call_by b s t z entry (acts.Load address width value) h e = absurd h
call_by b s t z entry (acts.Store address width value) h e = absurd h
call_by b s t z entry (acts.Allocate number base long live) h e = absurd h
call_by b s t z entry (acts.Free number base long live) h e = absurd h
call_by b s t z entry (acts.Trap cause code register) h e = absurd h

-- by one of the routines that hand an object out, and of those that give one back
allocate_by : (b : Platform) (s : State) (t : ℕ) (routine : Ran) → ((z : State) (entry number base long live : ℕ) → routine ≡ Leaves z (Some (entry, acts.Allocate number base long live)) → ToldBy b s t z entry (acts.Allocate number base long live)) → (z : State) (entry : ℕ) (a : Act) → IsAllocate a → routine ≡ Leaves z (Some (entry, a)) → ToldBy b s t z entry a
allocate_by b s t routine by z entry (acts.Allocate number base long live) h e = by z entry number base long live e
allocate_by b s t routine by z entry (acts.Load address width value) h e = absurd h
allocate_by b s t routine by z entry (acts.Store address width value) h e = absurd h
allocate_by b s t routine by z entry (acts.Call export) h e = absurd h
allocate_by b s t routine by z entry (acts.Free number base long live) h e = absurd h
allocate_by b s t routine by z entry (acts.Trap cause code register) h e = absurd h

free_by : (b : Platform) (s : State) (t : ℕ) (routine : Ran) → ((z : State) (entry number base long live : ℕ) → routine ≡ Leaves z (Some (entry, acts.Free number base long live)) → ToldBy b s t z entry (acts.Free number base long live)) → (z : State) (entry : ℕ) (a : Act) → IsFree a → routine ≡ Leaves z (Some (entry, a)) → ToldBy b s t z entry a
free_by b s t routine by z entry (acts.Free number base long live) h e = by z entry number base long live e
free_by b s t routine by z entry (acts.Load address width value) h e = absurd h
free_by b s t routine by z entry (acts.Store address width value) h e = absurd h
free_by b s t routine by z entry (acts.Call export) h e = absurd h
free_by b s t routine by z entry (acts.Allocate number base long live) h e = absurd h
free_by b s t routine by z entry (acts.Trap cause code register) h e = absurd h

-- a routine whose acts are all of one kind, by which it is found
ran_tells : (b : Platform) (s : State) (t : ℕ) (P : Act → Type 0) (routine r : Ran) → routine ≡ r → ((z : State) (entry : ℕ) (a : Act) → P a → routine ≡ Leaves z (Some (entry, a)) → ToldBy b s t z entry a) → Left (IfTold P) r → TellsAll b s t (ran b s t r)
ran_tells b s t P routine (Traps why) is by h = trap_tells b s t why
ran_tells b s t P routine (Leaves z None) is by h = none_tells b s t z
ran_tells b s t P routine (Leaves z (Some told)) is by h = λ d e. some_same (Tells b s t z) (deed_told s t told) d e (record { thread = refl; by = by z told.0 told.1 h is })

none_by : (b : Platform) (s : State) (t : ℕ) (routine : Ran) → Left (IfTold IsNone) routine → TellsAll b s t (ran b s t routine)
none_by b s t routine h = ran_tells b s t IsNone routine routine refl (λ z entry a none is. absurd none) h

routine_tells : (b : Platform) (s : State) (t n : ℕ) → n ≤ LAST_ROUTINE → (n ≡ RETURN → ⊥) → AtRoutine b s t n → TellsAll b s t (served b s t (native b.image s t n))
routine_tells b s t n few other = by_number (λ m (o : Option Ran). AtRoutine b s t m → TellsAll b s t (served b s t o)) b.image s t n few other (record {
  switch = λ at. ran_tells b s t IsCall (switch b.image s t) (switch b.image s t) refl (call_by b s t) (switch_left (IfTold IsCall) b.image s t (λ n. tt) (λ high. tt));
  yield = λ at. none_by b s t (yield s t) (yield_left (IfTold IsNone) b.image s t (λ status. tt));
  sleep = λ at. none_by b s t (sleep s t) (sleep_left (IfTold IsNone) b.image s t (λ status. tt));
  wait = λ at. none_by b s t (wait b.image s t) (wait_left (IfTold IsNone) b.image s t (λ n. tt) (λ status. tt));
  wake = λ at. none_by b s t (wake b.image s t) (wake_left (IfTold IsNone) b.image s t (λ address most. tt));
  allocate = λ at. ran_tells b s t IsAllocate (allocate b.image s t) (allocate b.image s t) refl (allocate_by b s t (allocate b.image s t) (λ z entry number base long live e. inl (at, e))) (allocate_left (IfTold IsAllocate) b.image s t (λ n. tt) (λ size r is. tt));
  free = λ at. ran_tells b s t IsFree (free b.image s t) (free b.image s t) refl (free_by b s t (free b.image s t) (λ z entry number base long live e. inl e)) (free_left (IfTold IsFree) b.image s t (λ n. tt) (λ r c is. tt));
  remaining = λ at. none_by b s t (remaining b.image s t) (remaining_left (IfTold IsNone) b.image s t (λ n. tt));
  token_key = λ at. ran_tells b s t IsAllocate (token_key b.image s t) (token_key b.image s t) refl (allocate_by b s t (token_key b.image s t) (λ z entry number base long live e. inr (inl (at, e)))) (token_key_left (IfTold IsAllocate) b.image s t (λ n. tt) (λ r is. tt));
  token_new = λ at. ran_tells b s t IsAllocate (token_new b.image s t) (token_new b.image s t) refl (allocate_by b s t (token_new b.image s t) (λ z entry number base long live e. inr (inr (at, e)))) (token_new_left (IfTold IsAllocate) b.image s t (λ n. tt) (λ size key r is k. tt));
  token_open = λ at. none_by b s t (token_open s t) (token_open_left (IfTold IsNone) b.image s t (λ n. tt) (λ key r is. tt));
  token_free = λ at. ran_tells b s t IsFree (token_free b.image s t) (token_free b.image s t) refl (free_by b s t (token_free b.image s t) (λ z entry number base long live e. inr e)) (token_free_left (IfTold IsFree) b.image s t (λ n. tt) (λ r c is. tt));
})

-- ---- whole

next_tells : (b : Platform) (s : State) (t : ℕ) → first_failed (fetch_checks (thread s t).pcc) ≡ None → TellsAll b s t (goes_on b s t (next_at (space_of b s) (cap_address (thread s t).pcc)))
next_tells b s t fetched = by_next (λ (n : Next). next_at (space_of b s) (cap_address (thread s t).pcc) ≡ n → TellsAll b s t (goes_on b s t n)) (space_of b s) (cap_address (thread s t).pcc)
    (λ at. none_tells b s t (return_taken b.image s t (thread s t).frames))
    (λ k away read at. ends_tells b s t (operand s t (operands_of k).first) _ (class_acts (class_of k) k (operands_of k).to (operand s t (operands_of k).first) (operand s t (operands_of k).second) (named_by b.image (operand s t (operands_of k).first)) (around b s t)))
    (λ n few other at. routine_tells b s t n few other (λ runs. record { runs = runs; fetched = fetched; routine = at }))
    (λ at. trap_tells b s t (plain_trap ILLEGAL_INSTRUCTION))
    refl

pub executed_tells : (b : Platform) (s : State) (t : ℕ) (d : Deed) → (executed b s t).1 ≡ Some d → Tells b s t (executed b s t).0 d
unfolding executed
executed_tells b s t = by (first_failed (fetch_checks (thread s t).pcc)) refl
  where
    by : (o : Option Trap) → first_failed (fetch_checks (thread s t).pcc) ≡ o → TellsAll b s t (after_fetch b s t o)
    by (Some why) e = trap_tells b s t why
    by None e = next_tells b s t e
