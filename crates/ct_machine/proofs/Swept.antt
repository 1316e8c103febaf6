-- Rounds of a running thread under a sweep, with no tick pending.
use Rattle.std.proofs.Common.{ℕ, ◌+◌, ◌≡◌, ◌<◌, false, length, Option, None, Some, refl, sym, ap, ◌∙◌, arith, subst}
use Rattle.ct_entry.specs.declared.acts.Deed.{Deed}
use Rattle.ct_entry.specs.declared.acts.Happened.{Happened}
use Rattle.def_events.specs.Guarded.{Guarded}
use Rattle.def_machine.specs.Platform.{MachineRow}
use Rattle.def_machine.specs.State.{State, Counts, thread}
use Rattle.def_step.specs.declared.Event.TheVariants.{Step, Sweep}
use Rattle.def_step.specs.Events.{happens, end_of, one_more_step, run_on}
use Rattle.ct_threads.specs.declared.window.Window.{Window}
use Rattle.ct_machine.specs.Going.{silence, one_more_sweep}
use Rattle.ct_machine.specs.Quiet.{with_counts, IsThreadWindow, StaysAside}
use Rattle.ct_machine.proofs.Appending.{round_ran, with_silence}
use Rattle.ct_machine.proofs.Quietly.{still_told}
use Rattle.ct_machine.proofs.Onward as onward
use Rattle.ct_machine.proofs.Onward.{Onward}
use Rattle.ct_machine.proofs.Sweeping.{SweepLeaves, swept_leaves}

-- ---- a slice

-- a window lies as it did where RAM is as large, and the thread's program counter capability the same
window_stays : (m n : MachineRow) (t : ℕ) (w : Window) → n.board ≡ m.board → length n.state.granules ≡ length m.state.granules → (thread n.state t).pcc ≡ (thread m.state t).pcc
    → IsThreadWindow m t w → IsThreadWindow n t w
window_stays m n t w board size pcc has = rw (board, size, pcc) has

-- it leaves thread t running, no tick pending, and the thread's windows
pub record SweptOnward (m n : MachineRow) (t : ℕ) : Type 0 where
  pub running : n.state.running ≡ Some t
  pub pending : n.state.pending ≡ false
  pub steps : n.state.counts.steps ≡ m.state.counts.steps
  pub window : (w : Window) → IsThreadWindow m t w → IsThreadWindow n t w

pub swept_onward : (m n : MachineRow) (t : ℕ) → m.state.running ≡ Some t → m.state.pending ≡ false → n.board ≡ m.board → (n.state, silence) ≡ happens m.board m.state Sweep → SweptOnward m n t
swept_onward m n t runs none board is =
    let p : SweepLeaves (one_more_sweep m.state) n.state = subst (SweepLeaves (one_more_sweep m.state)) (sym (ap (λ (r : State × Happened). r.0) is)) (swept_leaves m.board.image (one_more_sweep m.state)) in
    record {
      running = p.running ∙ runs;
      pending = p.pending ∙ none;
      steps = ap (λ (c : Counts). c.steps) p.counts;
      window = λ w. window_stays m n t w board p.size (p.pcc t runs);
    }

-- ---- the loop

-- after so many rounds of a machine that was so first, which told nothing
pub record Sweeping (first m : MachineRow) (t most made : ℕ) (w : Window) : Type 0 where
  pub on : Onward first m most made
  pub pending : m.state.pending ≡ false
  pub runs : m.state.running ≡ Some t
  pub window : IsThreadWindow m t w

pub starts : (m : MachineRow) (t most : ℕ) (w : Window) → Guarded m → m.state.pending ≡ false → m.state.running ≡ Some t → IsThreadWindow m t w → Sweeping m m t most 0 w
starts m t most w g none runs has = record { on = onward.starts m most g; pending = none; runs = runs; window = has }

abbrev pub with_none : State → State × Option Deed
with_none s = (s, None)

-- a quiet step after the slice, which counts after it
pub step_is : (m n counted : MachineRow) (t : ℕ) → m.state.pending ≡ false → m.state.running ≡ Some t → ((c : Counts) → (with_counts n.state c, None) ≡ run_on m.board (with_counts m.state c)) → StaysAside m n
    → counted.state ≡ one_more_step n.state → (counted.state, silence) ≡ happens m.board m.state Step
step_is m n counted t none runs is aside whole =
    ap with_silence whole
    ∙ still_told m.board m.state (one_more_step n.state) t none runs aside.holder
    (ap (λ (c : Counts). with_none (one_more_step (with_counts n.state c))) aside.counts ∙ is (record m.state.counts { steps = m.state.counts.steps + 1 }))

pub goes_on : {first m mid n : MachineRow} {t most made : ℕ} {w v : Window} → Sweeping first m t most made w → made < most → (mid.state, silence) ≡ happens m.board m.state Sweep → mid.board ≡ m.board → Guarded mid
    → (n.state, silence) ≡ happens mid.board mid.state Step → n.board ≡ mid.board → end_of n.state ≡ None → n.state.pending ≡ false → n.state.running ≡ Some t → IsThreadWindow n t v → Sweeping first n t most (made + 1) v
goes_on {first} {m} {mid} {n} {t} {most} {made} l more swept board g quiet next going none runs has = record {
  on = onward.goes_on first m n most made 1 silence l.on more (omega arith) (omega (arith, more)) (round_ran swept board g quiet next) refl going;
  pending = none;
  runs = runs;
  window = has;
}
