-- A burst: its instructions are steps that tell nothing, and where no sweep has work each is one with a slice before
-- it.
use Rattle.std.proofs.Common.{ℕ, zero, suc, ◌==◌, ◌≡◌, ◌≤◌, true, false, Some, refl, sym, ap, ◌∙◌, subst, arith}
use Rattle.std.proofs.lemmas.Bool.{eqb-true}
use Rattle.def_events.specs.Guarded.{Guarded}
use Rattle.def_machine.specs.Platform.{MachineRow}
use Rattle.def_machine.specs.State.{State}
use Rattle.def_step.specs.Events.{holder}
use Rattle.ct_engine.specs.Bursts.{GoesFor, GoesOnce, IsOpen, StaysOpen}
use Rattle.ct_engine.specs.Seen.{EngineRow}
use Rattle.ct_execute.specs.Deciding.{Stays}
use Rattle.ct_execute.proofs.Quiet.{goes_stays}
use Rattle.ct_machine.specs.declared.parts.Parts.TheInside.{Inside}
use Rattle.ct_machine.specs.Parts.{IsCounted, IsKept}
use Rattle.ct_machine.specs.Going.{one_more_sweep, MayGoOn}
use Rattle.ct_machine.specs.Quiet.{has_sweep, with_rounds, WentRounds}
use Rattle.ct_machine.proofs.Appending.{with_silence}
use Rattle.ct_machine.proofs.Guards.{same_machine}
use Rattle.ct_machine.proofs.Keeping.{counted_so}
use Rattle.ct_machine.proofs.Opened.{is_open}
use Rattle.ct_machine.proofs.Quietly.{none_ended, once_kept, quietly_is, still_held}
use Rattle.ct_machine.proofs.Rounding.{no_rounds, none_went, one_more_round, one_more_went}
use Rattle.ct_machine.proofs.Taking.{board_in, machine_in, state_in, state_with_row}

-- ---- a burst of one at most

-- whether it went
pub one_goes : (t made : ℕ) (e new : EngineRow) → GoesFor t made e new → (made == 1) ≡ true → GoesOnce t e new
one_goes t made e new goes is =
    let one : made ≡ 1 = eqb-true made 1 is in
    let first : GoesFor t 1 e new = subst (λ n. GoesFor t n e new) one goes in
    subst (λ (x : EngineRow). GoesOnce t x new) first.1 first.2

pub none_goes : (t made : ℕ) (e new : EngineRow) → GoesFor t made e new → made ≤ 1 → (made == 1) ≡ false → new ≡ e
none_goes t zero e new goes few is = goes
none_goes t (suc zero) e new goes few is = absurd (let clash : true ≡ false = is in cc)
none_goes t (suc (suc n)) e new goes few is = absurd (omega (arith, few))

-- ---- of a machine as it stands, and so as it is seen

pub none_seen : {m n : MachineRow} → m ≡ n → n.state.pending ≡ false → m.state.pending ≡ false
none_seen is none = ap (λ (x : MachineRow). x.state.pending) is ∙ none

pub runs_seen : {m n : MachineRow} {t : ℕ} → m ≡ n → n.state.running ≡ Some t → m.state.running ≡ Some t
runs_seen is runs = ap (λ (x : MachineRow). x.state.running) is ∙ runs

pub idle_seen : {m n : MachineRow} → m ≡ n → has_sweep n.state ≡ false → has_sweep m.state ≡ false
idle_seen is idle = ap (λ (x : MachineRow). has_sweep x.state) is ∙ idle

-- ---- many

both_stay : (e mid new : EngineRow) → Stays e mid → Stays mid new → Stays e new
both_stay e mid new a b = record {
  beside = b.beside ∙ ap (λ (x : EngineRow). record x { state = record x.state { granules = new.state.granules; threads = new.state.threads } }) a.beside;
  size = b.size ∙ a.size;
  threads = b.threads ∙ a.threads;
}

module _ {M : Type 0} (i : Inside M) (kept : IsKept i.plan i.engine i.sched) (t : ℕ) where
  -- what stands beside thread and memory
  pub burst_kept : (n : ℕ) (new : EngineRow) → GoesFor t n i.engine new → IsKept i.plan new i.sched × Stays i.engine new
  burst_kept zero new goes = subst (λ (x : EngineRow). IsKept i.plan x i.sched × Stays i.engine x) (sym goes) (kept, record { beside = refl; size = refl; threads = refl })
  burst_kept (suc n) new goes =
      let before = burst_kept n goes.0 goes.1 in
      (once_kept before.0 goes.2, both_stay i.engine goes.0 new before.1 (goes_stays goes.0 new t goes.2))

  -- and the invariant of a machine is kept
  pub burst_keeps : (n : ℕ) (new : EngineRow) → GoesFor t n i.engine new → IsCounted i.counts i.time i.engine.state.next → IsKept i.plan new i.sched × IsCounted i.counts i.time new.state.next
  burst_keeps n new goes counts =
      let after = burst_kept n new goes in
      (after.0, counted_so i.counts i.time i.engine new _ after.1.beside refl counts)

  module _ (runs : i.engine.state.running ≡ Some t) where
    -- nothing is hidden that the thread of a confined state may reach
    pub opens : MayGoOn (machine_in i) → IsOpen i.engine t
    opens may = is_open i.plan i.engine i.sched i.pending i.bus.states i.time i.counts t kept may.shut may.keeps.confined runs

    -- before the first instruction
    pub opens_first : (new : EngineRow) → MayGoOn (machine_in i) → GoesFor t 0 i.engine new → IsOpen new t
    opens_first new may goes = subst (λ (x : EngineRow). IsOpen x t) (sym goes) (opens may)

    pub opens_once : MayGoOn (machine_in i) → StaysOpen t 1 i.engine
    opens_once may zero new few goes = opens_first new may goes
    opens_once may (suc n) new few goes = absurd (omega (arith, few))

    pub still_runs : (n : ℕ) (new : EngineRow) → GoesFor t n i.engine new → new.state.running ≡ Some t
    still_runs n new goes = ap (λ (x : EngineRow). x.state.running) (burst_kept n new goes).1.beside ∙ runs

    -- and holds interrupts off as it did
    pub burst_held : (n : ℕ) (new : EngineRow) → GoesFor t n i.engine new → holder (state_with_row i new i.sched) ≡ holder (state_in i)
    burst_held zero new goes = ap (λ (x : EngineRow). holder (state_with_row i x i.sched)) goes
    burst_held (suc n) new goes = still_held (record i { engine = goes.0 }) (burst_kept n goes.0 goes.1).0 t (still_runs n goes.0 goes.1) goes.2 ∙ burst_held n goes.0 goes.1

    module _ (none : i.pending ≡ false) (guarded : Guarded (machine_in i)) (idle : has_sweep (state_in i) ≡ false) where
      -- so many rounds of the machine counted
      abbrev rounds_of : EngineRow → ℕ → MachineRow
      rounds_of x n = record { board = board_in i; state = with_rounds (state_with_row i x i.sched) n }

      burst_went : (n : ℕ) (new : EngineRow) → GoesFor t n i.engine new → WentRounds (machine_in i) (rounds_of new n) n
      burst_went zero new goes =
          subst (λ (x : EngineRow). WentRounds (machine_in i) (rounds_of x 0) 0) (sym goes)
          (subst (λ (s : State). WentRounds (machine_in i) (record { board = board_in i; state = s }) 0) (no_rounds (state_in i)) (none_went (machine_in i) guarded))
      burst_went (suc n) new goes =
          let mid : MachineRow = rounds_of goes.0 n in
          let there = burst_kept n goes.0 goes.1 in
          let inside : Inside M = record i { engine = goes.0; counts = (one_more_sweep mid.state).counts } in
          one_more_went (machine_in i) mid (rounds_of new (suc n)) n (burst_went n goes.0 goes.1)
          (ap (λ (x : EngineRow). has_sweep x.state) there.1.beside ∙ idle)
          (record {
            is = ap with_silence (one_more_round (state_with_row i new i.sched) n) ∙ quietly_is inside there.0 t (still_runs n goes.0 goes.1) none goes.2;
            board = refl;
            going = none_ended inside there.0 t (still_runs n goes.0 goes.1);
          })

      -- each is guarded, and so nothing is hidden that the thread may reach
      pub stays_open : (most : ℕ) → StaysOpen t most i.engine
      stays_open most n new few goes =
          let g = (burst_went n new goes).guarded in
          is_open i.plan new i.sched i.pending i.bus.states i.time (rounds_of new n).state.counts t (burst_kept n new goes).0 g.shut g.keeps.confined (still_runs n new goes)

      -- they count, and the machine is this
      pub rounds_went : (made : ℕ) (new : EngineRow) (n : MachineRow) → GoesFor t made i.engine new → n.state ≡ with_rounds (state_with_row i new i.sched) made → n.board ≡ board_in i → WentRounds (machine_in i) n made
      rounds_went made new n goes state board =
          subst (λ (m : MachineRow). WentRounds (machine_in i) m made) (sym (same_machine n (rounds_of new made) board state)) (burst_went made new goes)
