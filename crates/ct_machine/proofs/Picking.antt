-- A round in which a thread is picked, and those that follow where it goes on quietly.
use Rattle.std.proofs.Common.{ℕ, zero, suc, ◌+◌, ◌-◌, ◌≡◌, ◌≤◌, false, Option, Some, None, refl, sym, ap, ◌∙◌, subst, arith}
use Rattle.ct_entry.specs.declared.acts.Deed.{Deed}
use Rattle.ct_entry.specs.declared.acts.Happened.{Happened}
use Rattle.ct_entry.specs.declared.acts.Owned.{Owned}
use Rattle.def_events.specs.Guarded.{Guarded}
use Rattle.def_machine.specs.Platform.{Platform, MachineRow}
use Rattle.def_machine.specs.State.{State}
use Rattle.def_step.specs.declared.Event.TheVariants.{Step, Sweep}
use Rattle.def_step.specs.Events.{begun_since, end_of, happens, holder, holder_by, one_more_step, preempted, run, run_on, scheduled, told_of}
use Rattle.ct_engine.specs.Bursts.{GoesFor, GoesOnce, StaysOpen}
use Rattle.ct_engine.specs.Seen as engine
use Rattle.ct_engine.specs.Seen.{EngineRow}
use Rattle.ct_execute.proofs.Quiet.{goes_stays}
use Rattle.ct_machine.specs.declared.parts.Parts.TheInside.{Inside}
use Rattle.ct_machine.specs.Parts.{IsKept}
use Rattle.ct_machine.specs.Going.{silence, one_more_sweep, MayGoOn}
use Rattle.ct_machine.specs.Onward.{RanOn}
use Rattle.ct_machine.specs.Quiet.{has_sweep, with_rounds, CarriedOn, GuardsNext, WentRounds}
use Rattle.ct_machine.proofs.Appending.{both_ran, round_ran}
use Rattle.ct_machine.proofs.Bursting.{idle_seen, none_seen, opens_first, rounds_went, stays_open}
use Rattle.ct_machine.proofs.Guards.{same_machine, told_guarded}
use Rattle.ct_machine.proofs.Quietly.{none_ended, once_kept, quietly_run, still_held}
use Rattle.ct_machine.proofs.Ready.{may_go_on}
use Rattle.ct_machine.proofs.Rounding.{idle_told}
use Rattle.ct_machine.proofs.Taking.{board_in, holder_off, machine_in, none_preempted, runs_as, state_in, state_with_row}

-- ---- the first of so many instructions

front : (t n : ℕ) (e new : EngineRow) → GoesFor t (suc n) e new → (mid : EngineRow) × GoesOnce t e mid × GoesFor t n mid new
front t zero e new goes = (new, subst (λ (x : EngineRow). GoesOnce t x new) goes.1 goes.2, refl)
front t (suc n) e new goes = let first = front t n e goes.0 goes.1 in (first.0, first.1, (goes.0, first.2, goes.2))

-- of a machine of these parts, in which a thread runs, no tick is pending and no sweep has work
module _ {M : Type 0} (i : Inside M) (kept : IsKept i.plan i.engine i.sched) (t : ℕ) {now : MachineRow} (is : machine_in i ≡ now)
    (runs : i.engine.state.running ≡ Some t) (pending : now.state.pending ≡ false) (next : GuardsNext now) (idle : has_sweep now.state ≡ false) where
  module _ {mid : EngineRow} (goes : GoesOnce t i.engine mid) where
    -- of its first instruction
    abbrev first : Inside M
    first = record i { engine = mid }

    first_kept : IsKept i.plan mid i.sched
    first_kept = once_kept kept goes

    quiet_from : (state_in first, None) ≡ run_on now.board now.state
    quiet_from = quietly_run i kept t runs goes ∙ ap (λ (m : MachineRow). run_on m.board m.state) is

    first_runs : mid.state.running ≡ Some t
    first_runs = ap (λ (x : EngineRow). x.state.running) (goes_stays i.engine mid t goes).beside ∙ runs

    -- what follows it is open, and counts
    first_guarded : Guarded (machine_in first)
    first_guarded = subst (λ (b : Platform). Guarded (record { board = b; state = state_in first })) (sym (ap (λ (m : MachineRow). m.board) is)) (next.each (state_in first) quiet_from)

    first_idle : has_sweep (state_in first) ≡ false
    first_idle = ap (λ (x : EngineRow). has_sweep x.state) (goes_stays i.engine mid t goes).beside ∙ idle_seen is idle

  -- before the first, nothing is hidden that the thread may reach, since its state is confined; later since the machine
  -- is guarded
  pub open_on : MayGoOn now → (most : ℕ) → StaysOpen t most i.engine
  open_on may most zero mid few goes = opens_first i kept t runs mid (subst MayGoOn (sym is) may) goes
  open_on may most (suc n) mid few goes =
      let f = front t n i.engine mid goes in
      stays_open (first f.1) (first_kept f.1) t (first_runs f.1) (none_seen is pending) (first_guarded f.1) (first_idle f.1) (suc n) n mid (omega arith) f.2

  -- of so many as were counted
  pub carried_by : (made : ℕ) (new : EngineRow) (m : MachineRow) → (engine.thread i.engine t).posture.off ≡ false → GoesFor t made i.engine new
      → m.state ≡ with_rounds (state_with_row i new i.sched) (made - 1) → m.board ≡ board_in i → 1 ≤ made → CarriedOn now m made
  carried_by zero new m on goes state board some = absurd (omega (arith, some))
  carried_by (suc n) new m on goes state board some =
      let f = front t n i.engine new goes in
      let less : suc n - 1 ≡ n = omega arith in
      let went = rounds_went (first f.1) (first_kept f.1) t (first_runs f.1) (none_seen is pending) (first_guarded f.1) (first_idle f.1) n new m f.2
      (state ∙ ap (with_rounds (state_with_row i new i.sched)) less) board in
      record {
        after = state_in (first f.1);
        first = quiet_from f.1;
        on = still_held i kept t runs f.1 ∙ sym (holder_off (runs_as i (sym runs) refl) on);
        going = none_ended (first f.1) (first_kept f.1) t (first_runs f.1);
        rest = subst (λ (b : Platform). WentRounds (record { board = b; state = state_in (first f.1) }) m (suc n - 1)) (ap (λ (x : MachineRow). x.board) is)
            (subst (λ j. WentRounds (machine_in (first f.1)) m j) (sym less) went);
      }

-- ---- the round

-- the machine with a slice counted
abbrev pub slice_counted : MachineRow → MachineRow
slice_counted m = record { board = m.board; state = one_more_sweep m.state }

-- Machine m, in which no thread ran and no sweep had work, has counted a slice and a step, and picked a thread, where
-- one is ready: it is machine n.
pub record Picked (m n : MachineRow) : Type 0 where
  pub swept : (one_more_sweep m.state, silence) ≡ happens m.board m.state Sweep
  pub guarded : Guarded (slice_counted m)
  pub rests : m.state.running ≡ None
  pub board : n.board ≡ m.board
  pub state : n.state ≡ scheduled m.board (preempted (one_more_step (one_more_sweep m.state)))

pub picked_so : {m counted n : MachineRow} → Guarded m → has_sweep m.state ≡ false → m.state.running ≡ None → counted.state ≡ with_rounds m.state 1 → counted.board ≡ m.board
    → n.state ≡ scheduled counted.board counted.state → n.board ≡ counted.board → Picked m n
picked_so {m} {counted} {n} g idle rests state same turn board =
    let told = idle_told m (slice_counted m) g idle refl in
    record {
      swept = told;
      guarded = told_guarded {n = slice_counted m} Sweep g told refl;
      rests = rests;
      board = board ∙ same;
      state = turn ∙ ap (λ (b : Platform). scheduled b counted.state) same ∙ ap (scheduled m.board) (state ∙ sym (none_preempted (one_more_step (one_more_sweep m.state)) rests));
    }

rounds_join : (m mid n : MachineRow) (made : ℕ) → RanOn m mid 1 silence → end_of mid.state ≡ None → WentRounds mid n (made - 1) → 1 ≤ made → RanOn m n made silence
unfolding run
rounds_join m mid n zero first going rest some = absurd (omega (arith, some))
rounds_join m mid n (suc zero) first going rest some =
    let less : suc zero - 1 ≡ 0 = omega arith in
    let none : WentRounds mid n 0 = subst (λ j. WentRounds mid n j) less rest in
    subst (λ (x : MachineRow). RanOn m x 1 silence) (same_machine mid n (sym none.ran.board) (sym none.ran.state)) first
rounds_join m mid n (suc (suc k)) first going rest some =
    let whole : 1 + suc k ≡ suc (suc k) = omega arith in
    let less : suc (suc k) - 1 ≡ suc k = omega arith in
    let more : WentRounds mid n (suc k) = subst (λ j. WentRounds mid n j) less rest in
    subst (λ j. RanOn m n j silence) whole (both_ran m mid n 1 (suc k) silence first (λ above. going) (omega arith) more.ran)

module _ {m n : MachineRow} (p : Picked m n) where
  -- what the thread comes to is what the step does
  step_from : (s : State) (d : Option Deed) → (s, d) ≡ run_on n.board n.state → (s, record { deed = d; off = begun_since None s (holder s) }) ≡ happens m.board (one_more_sweep m.state) Step
  step_from s d is =
      ap (λ (o : Option (ℕ × ℕ)). let x : State × Happened = (s, record { deed = d; off = begun_since o s (holder s) }) in x) (sym (ap (holder_by (one_more_sweep m.state)) p.rests))
      ∙ ap (told_of (one_more_sweep m.state)) (is ∙ ap (λ (b : Platform). run_on b n.state) p.board ∙ ap (run_on m.board) p.state)

  pub may_carry_on : MayGoOn n
  may_carry_on = may_go_on (slice_counted m) n p.guarded p.board p.state

  pub next_guarded : GuardsNext n
  next_guarded = record { each = λ s is. told_guarded {n = record { board = n.board; state = s }} Step p.guarded (step_from s None is) p.board }

  pub picked_ran : (x : MachineRow) (made : ℕ) → 1 ≤ made → CarriedOn n x made → RanOn m x made silence × Guarded x
  picked_ran x made some c =
      let after : MachineRow = record { board = n.board; state = c.after } in
      let quiet : (c.after, silence) ≡ happens m.board (one_more_sweep m.state) Step =
      ap (λ (o : Option (ℕ × ℕ)). let y : State × Happened = (c.after, record { deed = None; off = begun_since None c.after o }) in y) (sym c.on) ∙ step_from c.after None c.first in
      (rounds_join m after x made (round_ran {mid = slice_counted m} p.swept refl p.guarded quiet p.board).0 c.going c.rest some, c.rest.guarded)

  pub told_ran : (same x : MachineRow) (d : Option Deed) (off : Option Owned) → same.board ≡ n.board → same.state ≡ n.state → (x.state, d) ≡ run_on same.board same.state → x.board ≡ same.board
      → off ≡ begun_since None x.state (holder x.state) → RanOn m x 1 (record { deed = d; off = off }) × Guarded x
  told_ran same x d off board state is there told =
      let step : (x.state, record { deed = d; off = off }) ≡ happens m.board (one_more_sweep m.state) Step =
      ap (λ (o : Option Owned). let y : State × Happened = (x.state, record { deed = d; off = o }) in y) told
      ∙ step_from x.state d (is ∙ ap (λ (y : MachineRow). run_on y.board y.state) (same_machine same n board state)) in
      round_ran {mid = slice_counted m} p.swept refl p.guarded step (there ∙ board ∙ p.board)

pub may_same : (m n : MachineRow) → n.board ≡ m.board → n.state ≡ m.state → MayGoOn m → MayGoOn n
may_same m n board state may = subst MayGoOn (sym (same_machine n m board state)) may
