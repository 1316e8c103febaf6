-- A window of the seen running thread is one of its row.
use Rattle.std.proofs.Common.{ℕ, ◌*◌, ◌≡◌, List, length, sym, ap, subst}
use Rattle.def_words.specs.declared.Cap.{Cap}
use Rattle.def_memory.specs.declared.Granule.{Granule}
use Rattle.def_machine.specs.State.{Thread}
use Rattle.law_hidden.proofs.Granules.{with_hidden_length}
use Rattle.ct_areas.specs.declared.thread.Thread as row
use Rattle.ct_threads.specs.declared.window.Window.{Window}
use Rattle.ct_threads.specs.Windows.{IsWindow}
use Rattle.ct_engine.specs.declared.rows.Rows.{Rows}
use Rattle.ct_engine.specs.Seen.{EngineRow, engine_view, thread, hidden}
use Rattle.ct_engine.specs.Steps.{HasWindow}
use Rattle.ct_engine.proofs.Goes.{Runner, running_is}

module _ {gs : List Granule} {rows : Rows} {v : EngineRow} {t : ℕ} {r : row.Thread} (h : Runner gs rows t r) (is : engine_view gs rows ≡ v) where
  pub window_here : {w : Window} → HasWindow v t w → IsWindow w r.pcc rows.region.ram (8 * length gs)
  window_here {w} has =
      subst (λ (c : Cap). IsWindow w c rows.region.ram (8 * length gs)) (ap (λ (u : Thread). u.pcc) (running_is h))
      (subst (λ n. IsWindow w (thread (engine_view gs rows) t).pcc rows.region.ram (8 * n)) (with_hidden_length (hidden gs rows) gs)
      (subst (λ (s : EngineRow). HasWindow s t w) (sym is) has))

  -- what holds of its program counter capability where it stands, in RAM of that size, holds of the one that is seen
  pub counter_seen : (P : Cap → ℕ → ℕ → Type 0) → P r.pcc rows.region.ram (8 * length gs) → P (thread v t).pcc v.region.ram (8 * length v.state.granules)
  counter_seen P here =
      subst (λ (s : EngineRow). P (thread s t).pcc s.region.ram (8 * length s.state.granules)) is
      (subst (λ n. P (thread (engine_view gs rows) t).pcc rows.region.ram (8 * n)) (sym (with_hidden_length (hidden gs rows) gs))
      (subst (λ (c : Cap). P c rows.region.ram (8 * length gs)) (sym (ap (λ (u : Thread). u.pcc) (running_is h))) here))
