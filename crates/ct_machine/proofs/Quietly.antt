-- A step that tells nothing: what the code leaves of it is what the written step leaves.
use Rattle.std.proofs.Common.{ℕ, zero, suc, ◌+◌, ◌*◌, ◌≡◌, Bool, true, false, if◌then◌else◌, cond, List, [], ◌∷◌, length, Option, Some, None, refl, sym, ap, ◌∙◌, subst}
use Rattle.std.proofs.Math.ListN.{get_or, set}
use Rattle.std.proofs.lemmas.Bool.{eq-eqb}
use Rattle.ct_entry.specs.declared.acts.Owned.{Owned}
use Rattle.def_words.specs.declared.Posture.{Posture}
use Rattle.def_machine.specs.Image.{Image}
use Rattle.def_machine.specs.State.{State, Thread, nobody}
use Rattle.def_step.specs.declared.Event.TheVariants.{Step}
use Rattle.def_machine.specs.Platform.{Platform, MachineRow}
use Rattle.def_step.specs.Events.{holder_by, holder, begun_since, begun, preempted, scheduled, one_more_step, run_on, continued, noted, told_of, happens, end_of}
use Rattle.ct_sched.specs.Sched.{SchedRow}
use Rattle.ct_engine.specs.Seen as engine
use Rattle.ct_engine.specs.Seen.{EngineRow}
use Rattle.ct_engine.specs.Bursts.{GoesOnce}
use Rattle.ct_engine.specs.Steps.{HasWindow}
use Rattle.ct_threads.specs.declared.window.Window.{Window}
use Rattle.ct_threads.specs.Windows.{IsWindow}
use Rattle.ct_engine.proofs.Outcomes.{once_gone}
use Rattle.ct_execute.proofs.Quiet.{executes_quietly, goes_stays}
use Rattle.ct_machine.specs.declared.parts.Parts.TheInside.{Inside}
use Rattle.ct_machine.specs.Parts.{IsKept}
use Rattle.ct_machine.specs.Going.{silence}
use Rattle.ct_machine.specs.Quiet.{undisturbed, IsThreadWindow}
use Rattle.ct_machine.proofs.Keeping.{ran_kept}
use Rattle.ct_machine.proofs.Statuses.{ready_goes, end_none}
use Rattle.ct_machine.proofs.Taking.{board_in, machine_in, state_in, state_with_row, ram_is, posture_with, not_pending, runs_scheduled}
use Rattle.law_events.proofs.Waiting.{given_status}

-- ---- the posture stays

set_posture : (ts : List Thread) (t : ℕ) (x : Thread) → x.posture ≡ (get_or ts t nobody).posture → (get_or (set ts t x) t nobody).posture ≡ (get_or ts t nobody).posture
set_posture [] t x is = refl
set_posture (y ∷ ts) zero x is = is
set_posture (y ∷ ts) (suc t) x is = set_posture ts t x is

same_posture : (t : ℕ) (s new : EngineRow) → GoesOnce t s new → (engine.thread new t).posture ≡ (engine.thread s t).posture
same_posture t s new g =
    ap (λ (x : EngineRow). (engine.thread x t).posture) g.is
    ∙ set_posture s.state.threads t g.to (ap (λ (u : Thread). u.posture) (once_gone s.region.ram (engine.thread s t) s.state.granules g.to g.after g.goes).is)

-- ---- no span with interrupts off begins

held_still : (o : Option (ℕ × ℕ)) (after : State) → begun_since o after o ≡ None
held_still None after = refl
held_still (Some h) after = rw (eq-eqb h.0 h.0 refl, eq-eqb h.1 h.1 refl) refl

-- ---- the written step, where no tick is pending and a thread runs

goes_straight_on : (b : Platform) (s : State) (t : ℕ) → s.pending ≡ false → s.running ≡ Some t → scheduled b (preempted (one_more_step s)) ≡ one_more_step s
goes_straight_on b s t none runs = ap (scheduled b) (not_pending (one_more_step s) none) ∙ runs_scheduled b (one_more_step s) t runs

pub still_told : (b : Platform) (s new : State) (t : ℕ) → s.pending ≡ false → s.running ≡ Some t → holder new ≡ holder s → (new, None) ≡ run_on b (one_more_step s) → (new, silence) ≡ happens b s Step
still_told b s new t none runs still is =
    let none_begun : begun s new ≡ None = ap (begun_since (holder s) new) still ∙ held_still (holder s) new in
    ap (λ (o : Option Owned). (new, record { deed = None; off = o })) (sym none_begun)
    ∙ ap (told_of s) (is ∙ ap (run_on b) (sym (goes_straight_on b s t none runs)))

-- ---- who runs, where no tick is pending

parts_of : (b : Bool) (o : Option ℕ) (t : ℕ) → Some t ≡ cond b None o → (b ≡ false) × (o ≡ Some t)
parts_of true o t is = absurd (cc)
parts_of false o t is = (refl, sym is)

pub undisturbed_parts : (s : State) (t : ℕ) → Some t ≡ undisturbed s → (s.pending ≡ false) × (s.running ≡ Some t)
undisturbed_parts s t is = parts_of s.pending s.running t is

-- ---- of a machine's parts

pub once_kept : {i : Image} {e new : EngineRow} {r : SchedRow} {t : ℕ} → IsKept i e r → GoesOnce t e new → IsKept i new r
once_kept {i} {e} {new} {r} {t} kept goes = ran_kept i e new r kept (goes_stays e new t goes)

module _ {M : Type 0} (i : Inside M) (kept : IsKept i.plan i.engine i.sched) (t : ℕ) where
  -- a window of the engine's thread is one of the machine's, and the other way round
  pub window_in : (w : Window) → IsThreadWindow (machine_in i) t w → HasWindow i.engine t w
  window_in w has =
      subst (λ n. IsWindow w (engine.thread i.engine t).pcc n (8 * length i.engine.state.granules)) (sym (ram_is i.plan i.engine i.sched kept))
      (subst (λ (u : Thread). IsWindow w u.pcc i.plan.ram (8 * length i.engine.state.granules)) (given_status i.engine.state.threads i.sched.statuses t kept.statuses) has)

  pub window_out : (w : Window) → HasWindow i.engine t w → IsThreadWindow (machine_in i) t w
  window_out w has =
      subst (λ (u : Thread). IsWindow w u.pcc i.plan.ram (8 * length i.engine.state.granules)) (sym (given_status i.engine.state.threads i.sched.statuses t kept.statuses))
      (subst (λ n. IsWindow w (engine.thread i.engine t).pcc n (8 * length i.engine.state.granules)) (ram_is i.plan i.engine i.sched kept) has)

  pub window_seen : {now : MachineRow} → machine_in i ≡ now → (w : Window) → HasWindow i.engine t w → IsThreadWindow now t w
  window_seen is w has = subst (λ (m : MachineRow). IsThreadWindow m t w) is (window_out w has)

  module _ (runs : i.engine.state.running ≡ Some t) where
    -- where a thread runs the machine has come to no end
    pub none_ended : end_of (state_in i) ≡ None
    none_ended = sym (end_none (state_in i) i.engine.state.threads i.sched.statuses refl kept.statuses (ready_goes i.sched.statuses t (kept.ready t runs)))

    module _ {new : EngineRow} (goes : GoesOnce t i.engine new) where
      abbrev after : State
      after = state_with_row i new i.sched

      -- the thread carries on so
      pub quietly_run : (after, None) ≡ run_on (board_in i) (state_in i)
      quietly_run =
          ap noted ((executes_quietly i.plan.entries t i.time i.engine new i.bus goes).comes i.plan (state_in i) i.sched.statuses (ram_is i.plan i.engine i.sched kept) refl)
          ∙ ap (continued (board_in i) (state_in i)) (sym runs)

      -- and holds interrupts off as it did
      pub still_held : holder after ≡ holder (state_in i)
      still_held =
          ap (holder_by after) (ap (λ (x : EngineRow). x.state.running) (goes_stays i.engine new t goes).beside ∙ runs)
          ∙ ap (λ (p : Posture). if p.off then Some (t, p.source) else None)
          (posture_with new.state.threads i.sched.statuses t ∙ same_posture t i.engine new goes ∙ sym (posture_with i.engine.state.threads i.sched.statuses t))
          ∙ sym (ap (holder_by (state_in i)) runs)

-- its step, which counts first, tells nothing where no tick is pending
pub quietly_is : {M : Type 0} (i : Inside M) → IsKept i.plan i.engine i.sched → (t : ℕ) {new : EngineRow} → i.engine.state.running ≡ Some t → i.pending ≡ false → GoesOnce t i.engine new
    → (one_more_step (state_with_row i new i.sched), silence) ≡ happens (board_in i) (state_in i) Step
quietly_is i kept t {new} runs none goes =
    still_told (board_in i) (state_in i) (one_more_step (state_with_row i new i.sched)) t none runs (still_held i kept t runs goes)
    (quietly_run (record i { counts = record i.counts { steps = i.counts.steps + 1 } }) kept t runs goes)
