-- One instruction of the running thread, by what kind of work it is, and the fetch before it.
use Rattle.std.proofs.Common.{ℕ, ◌≡◌, ◌<◌, ◌≤◌, true, false, inl, inr, Option, Some, None, Result, Ok, Err, refl, sym, ap, ◌∙◌, subst, option_map}
use Rattle.std.specs.Prelude.{unwrap_or}
use Rattle.law_lists.proofs.Tests.{bool_tells}
use Rattle.def_words.specs.declared.Cap.{Cap}
use Rattle.def_words.specs.declared.Trap.{Trap}
use Rattle.def_words.specs.Authority.{cap_address}
use Rattle.def_words.specs.Capability.{integer, raised}
use Rattle.def_memory.specs.Granules.{plain}
use Rattle.ct_entry.specs.declared.acts.Act.{Act}
use Rattle.ct_entry.specs.declared.acts.Deed.{Deed}
use Rattle.def_instr.specs.declared.Instr.{Instr}
use Rattle.def_instr.specs.Reading.{instruction_in}
use Rattle.def_instr.specs.Results.{integer_result}
use Rattle.def_capstep.specs.Results.{capability_result}
use Rattle.def_reach.specs.Roots.{is_native}
use Rattle.def_machine.specs.Image.{root, made_cap}
use Rattle.def_machine.specs.State.{State, thread}
use Rattle.def_step.specs.declared.Class.{Class}
use Rattle.def_step.specs.declared.Class.TheVariants as class
use Rattle.def_step.specs.declared.Next.{Next}
use Rattle.def_step.specs.declared.Next.TheVariants.{Instruction, Native}
use Rattle.def_profile.specs.declared.traps.TheConstants.{SYSTEM_REGISTER_CODE, ILLEGAL_INSTRUCTION, BREAKPOINT, ENVIRONMENT_CALL}
use Rattle.def_step.specs.Accesses.{MemoryAndDevices, Accessed, access_of, access_checks, access_address, access_result, accessed, unless}
use Rattle.def_step.specs.Jumps.{Flowed, flow_result}
use Rattle.def_step.specs.Operands.{operands_of, class_of}
use Rattle.def_profile.specs.declared.native.TheConstants.{RETURN}
use Rattle.def_step.specs.declared.TheConstants.{LAST_ROUTINE}
use Rattle.def_step.specs.Routines.{Ran, Traps, Leaves, switch, yield, sleep, wait, wake}
use Rattle.def_step.specs.Quotas.{allocate, free, remaining}
use Rattle.def_step.specs.Tokens.{token_key, token_new, token_open, token_free}
use Rattle.def_confined.specs.Facts.{Facts}
use Rattle.def_confined.specs.Keeps.{Keeps}
use Rattle.def_step.specs.Instructions.{Effect, Context, carried_out, named_by, flows, accesses, around, space_of, deed, put_done, instruction_end, operand, goes_on, after_fetch, executed, fetch_checks, fetched, next_at, is_native_entry, deed_told, ran, served}
use Rattle.def_machine.specs.Platform.{Platform}
use Rattle.def_safety.specs.Wired.{Wired}
use Rattle.def_confined.specs.Confined.{Confined}
use Rattle.def_confined.specs.Partitioned.{Partitioned}
use Rattle.def_confined.specs.Licensed.{Licensed}
use Rattle.law_moves.proofs.JumpsMoves.{in_rooted}
use Rattle.law_events.proofs.Accesses.{access_laws}
use Rattle.def_confined.specs.Changes.{Puts}
use Rattle.law_moves.proofs.Moves.{untagged_puts}
use Rattle.law_events.proofs.Values.{result_puts}
use Rattle.law_moves.proofs.Checks.{MayTell, by_checks, counter_tells, plain_tells}
use Rattle.law_events.proofs.Checking.{Fetched, access_tells, fetch_tells, fetch_passes}
use Rattle.law_events.proofs.Smalls.{IsSmall, by_small, read_small}
use Rattle.law_events.proofs.Goings.{FlowFits, Fetching}
use Rattle.law_events.proofs.Goings as going
use Rattle.law_routines.proofs.Cases.{by_next, by_routine}
use Rattle.def_events.specs.Stands.{RoutineKeeps, RoutineTellsLicensed}
use Rattle.law_events.proofs.Serving.{switch_stands, rests_stands}
use Rattle.law_events.proofs.Waiting.{wait_stands, wake_stands}
use Rattle.law_events.proofs.Charging.{allocate_stands, remaining_stands}
use Rattle.law_events.proofs.Freeing.{free_stands}
use Rattle.law_events.proofs.Sealing.{token_key_stands, token_new_stands, token_open_stands, token_free_stands}
use Rattle.law_events.proofs.Flows.{flow_fits}
use Rattle.law_events.proofs.Fairness.{Fair, some_same, none_licensed, trapped_fair, returned_fair, has_frames, put_beside, moved_on, jumps_fair}

-- ---- by the kind of work

gives_fair : (b : Platform) (s : State) (t to : ℕ) (value : Cap) → s.running ≡ Some t → Fetching b.image s t → Puts b.image s t value → Fair b s (put_done s t (moved_on b s to value (raised (thread s t).pcc 4) (thread s t).posture), None)
gives_fair b s t to value runs f puts = jumps_fair b s t to value (raised (thread s t).pcc 4) (thread s t).posture runs f.fetched.tagged (going.goes_on b.image s t value f puts)

flow_fair : (b : Platform) (s : State) (t to : ℕ) (x : Cap) (r : Result Flowed Trap) → s.running ≡ Some t → Fetching b.image s t → FlowFits b.image s t r → Fair b s (instruction_end b s t x (flows (around b s t) to r))
flow_fair b s t to x (Err w) runs f fits = trapped_fair b s t w runs f.parts f.facts f.held fits
flow_fair b s t to x (Ok j) runs f fits = jumps_fair b s t to (unwrap_or j.link (plain 0)) j.pcc j.posture runs f.fetched.tagged fits

-- ---- accesses

abbrev pub ErrTells : {A : Type 0} → Result A Trap → Type 0
ErrTells (Err w) = MayTell w
ErrTells (Ok d) = Unit {0}

result_tells : (k : Instr) (x y : Cap) (p : MemoryAndDevices) → (access_of k).by < 16 → ErrTells (access_result k x y p)
unfolding access_result
result_tells k x y p small = by_checks (λ o. ErrTells (unless o (accessed (access_of k) x y (access_address (access_of k) x) p)))
    (access_checks (access_of k) x y (access_address (access_of k) x))
    (access_tells (access_of k) x y (access_address (access_of k) x) small)
    (λ w tells. tells)
    (λ passes. tt)

accesses_tell : (a : Context) (to : ℕ) (r : Result Accessed Trap) → ErrTells r → ErrTells (accesses a to r)
accesses_tell a to (Err w) h = h
accesses_tell a to (Ok m) h = tt

act_licensed : (b : Platform) (s : State) (t entry : ℕ) (o : Option Act) → ((a : Act) → o ≡ Some a → Licensed b.image.entries (deed s t entry a)) → (d : Deed) → option_map (deed s t entry) o ≡ Some d → Licensed b.image.entries d
act_licensed b s t entry None h d e = none_licensed b d e
act_licensed b s t entry (Some a) h d e = some_same (Licensed b.image.entries) (deed s t entry a) d e (h a refl)

access_fair : (b : Platform) (s : State) (t : ℕ) (k : Instr) (r : Result Effect Trap) → Fetching b.image s t → Wired b → s.running ≡ Some t
    → carried_out class.Access k (operands_of k).to (operand s t (operands_of k).first) (operand s t (operands_of k).second) (named_by b.image (operand s t (operands_of k).first)) (around b s t) ≡ r → ErrTells r → Fair b s (instruction_end b s t (operand s t (operands_of k).first) r)
access_fair b s t k (Err w) f wired runs e tells = trapped_fair b s t w runs f.parts f.facts f.held tells
access_fair b s t k (Ok d) f wired runs e tells =
    let laws = access_laws b s t k wired f runs in
    record {
      confined = laws.confined d e;
      licensed = act_licensed b s t (operand s t (operands_of k).first).shadow.root d.act (λ a acts. laws.licensed d a e acts);
      beside = put_beside b s t d runs (has_frames b.image s.objects t (thread s t).frames (thread s t).pcc (f.held.pcc t) f.fetched.tagged) (laws.ram d e);
    }

-- ---- an instruction

class_fair : (b : Platform) (s : State) (t : ℕ) (k : Instr) (c : Class) → class_of k ≡ c → Wired b → s.running ≡ Some t → Fetching b.image s t → (operands_of k).first < 16
    → Fair b s (instruction_end b s t (operand s t (operands_of k).first) (carried_out c k (operands_of k).to (operand s t (operands_of k).first) (operand s t (operands_of k).second) (named_by b.image (operand s t (operands_of k).first)) (around b s t)))
class_fair b s t k class.Integer e wired runs f small =
    gives_fair b s t (operands_of k).to (integer (integer_result k (cap_address (operand s t (operands_of k).first)) (cap_address (operand s t (operands_of k).second)))) runs f (untagged_puts b.image s t _ refl)
class_fair b s t k class.Capability e wired runs f small =
    gives_fair b s t (operands_of k).to (capability_result k (operand s t (operands_of k).first) (operand s t (operands_of k).second) (thread s t).pcc) runs f
    (result_puts b.image s t (operands_of k).first (operands_of k).second k f.parts f.held runs f.other)
class_fair b s t k class.System e wired runs f small = trapped_fair b s t _ runs f.parts f.facts f.held (counter_tells SYSTEM_REGISTER_CODE (inr (inr (inr (inr refl)))))
class_fair b s t k class.Jump e wired runs f small =
    flow_fair b s t (operands_of k).to (operand s t (operands_of k).first) (flow_result k (operand s t (operands_of k).first) (operand s t (operands_of k).second) (thread s t).pcc (thread s t).posture (named_by b.image (operand s t (operands_of k).first))) runs f
    (flow_fits b s t k wired f small)
class_fair b s t k class.Access e wired runs f small =
    access_fair b s t k _ f wired runs refl
    (accesses_tell (around b s t) (operands_of k).to (access_result k (operand s t (operands_of k).first) (operand s t (operands_of k).second) (space_of b s))
    (result_tells k (operand s t (operands_of k).first) (operand s t (operands_of k).second) (space_of b s) (by_small k small)))
class_fair b s t k class.Fence e wired runs f small = gives_fair b s t 0 (plain 0) runs f (untagged_puts b.image s t (plain 0) refl)
class_fair b s t k class.Call e wired runs f small = trapped_fair b s t _ runs f.parts f.facts f.held (plain_tells ENVIRONMENT_CALL (inr (inr (inr (inr (inr refl))))))
class_fair b s t k class.Break e wired runs f small = trapped_fair b s t _ runs f.parts f.facts f.held (plain_tells BREAKPOINT (inr (inr (inl refl))))

-- ---- what stands at the program counter

-- no instruction is fetched through a capability of a native routine
not_native : (b : Platform) (s : State) (t : ℕ) → Wired b → Confined b.image s → (thread s t).pcc.tag ≡ true → is_native_entry (cap_address (thread s t).pcc) ≡ false → is_native (root b.image (thread s t).pcc.shadow.root).origin ≡ false
not_native b s t wired h tagged away = elim (bool_tells (is_native (root b.image (thread s t).pcc.shadow.root).origin)) [
  | inl native ↦
      let at : cap_address (thread s t).pcc ≡ cap_address (made_cap b.image (thread s t).pcc.shadow.root) = (in_rooted b.image s.objects t (thread s t).frames (thread s t).pcc (h.pcc t) tagged).native native in
      let entry : is_native_entry (cap_address (thread s t).pcc) ≡ true = ap is_native_entry at ∙ wired.natives (thread s t).pcc.shadow.root native in
      absurd (let clash : true ≡ false = sym entry ∙ away in cc)
  | inr other ↦ other
]

instruction_fair : (b : Platform) (s : State) (t : ℕ) (k : Instr) → is_native_entry (cap_address (thread s t).pcc) ≡ false → instruction_in (fetched (space_of b s) (cap_address (thread s t).pcc)) ≡ Some k → Partitioned b.image → Facts b.image → Wired b → Confined b.image s → s.running ≡ Some t → Fetched (thread s t).pcc → Fair b s (goes_on b s t (Instruction k))
instruction_fair b s t k away read parts facts wired h runs f =
    let other = not_native b s t wired h f.tagged away in
    let small : IsSmall (Some k) = subst IsSmall read (read_small (fetched (space_of b s) (cap_address (thread s t).pcc))) in
    class_fair b s t k (class_of k) refl wired runs (record { parts = parts; facts = facts; held = h; fetched = f; other = other }) small

-- what a routine comes to that stands
ran_fair : (b : Platform) (s : State) (t : ℕ) (r : Ran) → Partitioned b.image → Facts b.image → Confined b.image s → s.running ≡ Some t → RoutineKeeps b.image s t r → Fair b s (ran b s t r)
ran_fair b s t (Traps why) parts facts h runs tells = trapped_fair b s t why runs parts facts h tells
ran_fair b s t (Leaves after told) parts facts h runs stands = record { confined = stands.0.confined; licensed = told_licensed told stands.1; beside = λ e. stands.0.beside }
  where
    told_licensed : (o : Option (ℕ × Act)) → RoutineTellsLicensed b.image s t o → (d : Deed) → option_map (deed_told s t) o ≡ Some d → Licensed b.image.entries d
    told_licensed None h d e = none_licensed b d e
    told_licensed (Some told) h d e = some_same (Licensed b.image.entries) (deed_told s t told) d e h

routine_fair : (b : Platform) (s : State) (t n : ℕ) → n ≤ LAST_ROUTINE → (n ≡ RETURN → ⊥) → Partitioned b.image → Facts b.image → Keeps b.image s → s.running ≡ Some t → Fair b s (goes_on b s t (Native n))
routine_fair b s t n few other parts facts k runs = by_routine (λ (o : Option Ran). Fair b s (served b s t o)) b.image s t n few other (record {
  switch = stands (switch b.image s t) (switch_stands b.image s t parts facts k runs);
  yield = stands (yield s t) (rests_stands b.image s t parts k runs).0;
  sleep = stands (sleep s t) (rests_stands b.image s t parts k runs).1;
  wait = stands (wait b.image s t) (wait_stands b.image s t parts k runs);
  wake = stands (wake b.image s t) (wake_stands b.image s t parts k runs);
  allocate = stands (allocate b.image s t) (allocate_stands b.image s t parts facts k runs);
  free = stands (free b.image s t) (free_stands b.image s t parts facts k runs);
  remaining = stands (remaining b.image s t) (remaining_stands b.image s t parts facts k runs);
  token_key = stands (token_key b.image s t) (token_key_stands b.image s t parts facts k runs);
  token_new = stands (token_new b.image s t) (token_new_stands b.image s t parts facts k runs);
  token_open = stands (token_open s t) (token_open_stands b.image s t parts k runs);
  token_free = stands (token_free b.image s t) (token_free_stands b.image s t parts facts k runs);
})
  where
    stands : (r : Ran) → RoutineKeeps b.image s t r → Fair b s (ran b s t r)
    stands r h = ran_fair b s t r parts facts k.confined runs h

next_fair : (b : Platform) (s : State) (t : ℕ) → Partitioned b.image → Facts b.image → Wired b → Keeps b.image s → s.running ≡ Some t → Fetched (thread s t).pcc → Fair b s (goes_on b s t (next_at (space_of b s) (cap_address (thread s t).pcc)))
next_fair b s t parts facts wired k runs f = by_next (λ (n : Next). Fair b s (goes_on b s t n)) (space_of b s) (cap_address (thread s t).pcc)
    (returned_fair b s t runs parts k.confined)
    (λ i away read. instruction_fair b s t i away read parts facts wired k.confined runs f)
    (λ n few other. routine_fair b s t n few other parts facts k runs)
    (trapped_fair b s t _ runs parts facts k.confined (plain_tells ILLEGAL_INSTRUCTION (inr (inl refl))))

pub executed_fair : (b : Platform) (s : State) (t : ℕ) → Partitioned b.image → Facts b.image → Wired b → Keeps b.image s → s.running ≡ Some t → Fair b s (executed b s t)
unfolding executed
executed_fair b s t parts facts wired k runs = by_checks (λ o. Fair b s (after_fetch b s t o))
    (fetch_checks (thread s t).pcc)
    (fetch_tells (thread s t).pcc)
    (λ w tells. trapped_fair b s t w runs parts facts k.confined tells)
    (λ passes. next_fair b s t parts facts wired k runs (fetch_passes (thread s t).pcc passes))
