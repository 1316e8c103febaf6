-- The running thread changes whole, after its stack was zeroed up to an address: what is seen of it, and what is kept.
use Rattle.std.proofs.Common.{ℕ, ◌≡◌, ◌+◌, ◌≤◌, Bool, true, List, sym, ap, ◌∙◌, subst}
use Rattle.std.proofs.Math.ListN.{set}
use Rattle.def_memory.specs.declared.Granule.{Granule}
use Rattle.def_memory.specs.Ranges.{zeroed_from}
use Rattle.def_machine.specs.State.{Thread}
use Rattle.ct_areas.specs.declared.thread.Area.{Area}
use Rattle.ct_areas.specs.declared.thread.Thread as row
use Rattle.ct_areas.specs.Threads.{thread_of}
use Rattle.ct_engine.specs.declared.rows.Rows.{Rows}
use Rattle.ct_engine.specs.Seen.{EngineRow, engine_view, with_thread, with_running}
use Rattle.ct_engine.specs.Kept.{IsEngine}
use Rattle.ct_engine.specs.Calls.{switched}
use Rattle.ct_engine.proofs.Whole.{Turn, turned, turn_sees}
use Rattle.ct_engine.proofs.Goes.{Runner, running_lies}
use Rattle.ct_engine.proofs.Stacks.{running_stack, running_area, zeroed_holds, zeroed_is_seen}

module _ {gs : List Granule} {rows : Rows} {t : ℕ} {r : row.Thread} (h : Runner gs rows t r) (high : ℕ)
    (le : high ≤ r.area.stack + r.area.stack_length) where
  -- it runs in the memory that is zeroed so
  pub zeroed_runner : Runner (zeroed_from r.area.stack high r.area.ram gs) rows t r
  zeroed_runner = record {
    holds = subst (λ n. IsEngine (zeroed_from r.area.stack high n gs) rows) (sym (running_lies h).base)
        (zeroed_holds gs rows r.area high h.holds (running_stack h) le);
    runs = h.runs;
    is = h.is;
  }

  pub switched_seen : {hs : List Granule} {new : Rows} {q : row.Thread} {now : Bool}
      → Turn (zeroed_from r.area.stack high r.area.ram gs) hs rows new t r q true now → (x : Thread) → thread_of hs now q ≡ x
      → engine_view hs (turned rows new t q) ≡ switched (engine_view gs rows) t high x new.running
  switched_seen {hs} {new} turn x same =
      let s : EngineRow = engine_view gs rows in
      let at_base : Area → ℕ → EngineRow = λ a n. record s {
        state = record s.state {
          granules = zeroed_from a.stack high n s.state.granules;
          threads = set s.state.threads t x;
          running = new.running;
        };
      } in
      turn_sees turn x same
      ∙ ap (λ n. with_running (with_thread (engine_view (zeroed_from r.area.stack high n gs) rows) t x) new.running) (running_lies h).base
      ∙ ap (λ (v : EngineRow). with_running (with_thread v t x) new.running) (zeroed_is_seen gs rows r.area high h.holds (running_stack h) le)
      ∙ ap (λ (a : Area). at_base a rows.region.ram) (sym (running_area h))
