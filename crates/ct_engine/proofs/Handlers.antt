-- A trap's error handler: what is said where it is entered, and what that leaves of a row and of all that is seen.
use Rattle.std.proofs.Common.{ℕ, ◌≡◌, ◌+◌, ◌-◌, ◌*◌, ◌/◌, ◌%◌, ◌<◌, ◌≤◌, cond, Bool, true, false, List, [], ◌∷◌, length, map, refl, sym, ap, ◌∙◌, arith, subst}
use Rattle.std.proofs.Math.ListN.{set}
use Rattle.ct_entry.specs.Listed.{Listed}
use Rattle.def_words.specs.declared.Cap.{Cap}
use Rattle.def_words.specs.declared.Trap.{Trap}
use Rattle.def_words.specs.Authority.{cap_address}
use Rattle.def_memory.specs.declared.Granule.{Granule}
use Rattle.def_memory.specs.Granules.{plain}
use Rattle.def_machine.specs.State.{Thread, Frame, register}
use Rattle.def_step.specs.Handlers.{Handed, is_handled_by, record_by, record_words, words_written}
use Rattle.law_areas.proofs.Changes.{unchanged}
use Rattle.law_hidden.proofs.Granules.{with_hidden_length}
use Rattle.ct_areas.specs.declared.thread.Area.{Area}
use Rattle.ct_areas.specs.declared.thread.Thread as row
use Rattle.ct_areas.specs.Threads.{area_begin, area_end, living}
use Rattle.ct_areas.specs.Parts.{register_in, inner_frame}
use Rattle.ct_switch.specs.Exports.{IsCallable}
use Rattle.ct_switch.specs.Ready.{IsReady}
use Rattle.ct_threads.specs.Handling.{RowMayHandle, is_handled_in, handed_in, record_place, recorded, handling_row, memory_by, row_by}
use Rattle.ct_threads.proofs.Beside.{kept_as}
use Rattle.ct_threads.proofs.Handlers.{Says, says, handled_over, handled_thread}
use Rattle.ct_engine.specs.declared.rows.Rows.{Rows}
use Rattle.ct_engine.specs.Seen.{EngineRow, engine_view, thread, area_at, hidden, with_granules, with_running, with_thread}
use Rattle.ct_engine.specs.Calls.{IsEnterable}
use Rattle.ct_engine.specs.Handling.{MayHandle, is_handled_of, is_handled_at, handed_at, handler_begun, after_trap}
use Rattle.ct_engine.proofs.Whole.{Turn, turned, turn_sees, turn_stays}
use Rattle.ct_engine.proofs.Goes.{Runner, running_lies, running_is, running_frames, running_some, running_thread, running_turn}
use Rattle.ct_engine.proofs.Stacks.{InStack, running_stack, running_area, ready_is, words_hold, words_are_seen}
use Rattle.ct_engine.proofs.Entering.{head_seen}

place_numbers : (ram own stack long top c : ℕ) → ram ≡ own → ram % 16 ≡ 0 → stack + 80 ≤ c / 16 * 16 → c ≤ top → top ≤ stack + long → ram ≤ stack
    → (stack ≤ own + 8 * ((c / 16 * 16 - 80 - ram) / 8)) × (own + 8 * ((c / 16 * 16 - 80 - ram) / 8 + 10) ≤ stack + long)
place_numbers ram own stack long top c base even low high under start = (omega (arith, base, even, low, start), omega (arith, base, even, low, high, under, start))

module _ {gs : List Granule} {rows : Rows} {t : ℕ} {r : row.Thread} (h : Runner gs rows t r) (e : Listed) (handler : ℕ) where
  -- whether it is entered
  pub handled_is : is_handled_in r handler ≡ is_handled_at (engine_view gs rows) t handler
  handled_is =
      let s : EngineRow = engine_view gs rows in
      sym (ap (λ (fs : List Frame). is_handled_of s t handler fs) (running_frames h)
      ∙ ap (λ (u : Thread). is_handled_by handler (area_at s t).stack u (inner_frame gs r)) (running_is h)
      ∙ ap (λ (a : Area). is_handled_by handler a.stack (living gs true r) (inner_frame gs r)) (running_area h))

  -- what the handler gets
  handed_is : IsEnterable (engine_view gs rows) e handler → handed_in gs e r handler ≡ handed_at (engine_view gs rows) e handler
  handed_is open_ =
      let head = head_seen h e handler open_ in
      rw (head.0, head.1) refl

  module _ (may : MayHandle (engine_view gs rows) t e handler) where
    ready : IsReady gs r
    ready = ready_is h may.top

    -- what is asked of the row
    pub row_may : RowMayHandle gs r e handler
    row_may = record {
      ready = ready;
      sorted = may.sorted;
      callable = λ some.
          subst (λ n. IsCallable e n (8 * length gs) handler) (sym (running_lies h).base)
          (subst (λ n. IsCallable e rows.region.ram (8 * n) handler) (with_hidden_length (hidden gs rows) gs) (may.enterable some).callable);
    }

    -- ---- where it is entered

    module _ (why : Trap) (entered : is_handled_in r handler ≡ true) where
      abbrev place : ℕ
      place = record_place r.area.ram (register_in r 2)

      abbrev words : List ℕ
      words = record_by r.regs (cap_address r.pcc) why

      say : Says r handler
      say = says r handler entered

      record_in_stack : InStack rows r.area place 10
      record_in_stack =
          let both = place_numbers r.area.ram rows.region.ram r.area.stack r.area.stack_length r.top (cap_address (register_in r 2))
          (running_lies h).base ready.area.ram say.low say.high ready.high ready.stack.low in
          record { low = both.0; high = both.1 }

      -- memory with the record is open as before
      pub with_record : Runner (recorded gs r why) rows t r
      with_record = record {
        holds = words_hold gs rows r.area place (map plain words) h.holds (running_stack h) record_in_stack;
        runs = h.runs;
        is = h.is;
      }

      record_seen : engine_view (recorded gs r why) rows ≡ with_granules (engine_view gs rows) (words_written (engine_view gs rows).state.granules place words)
      record_seen = words_are_seen gs rows r.area place (map plain words) h.holds (running_stack h) record_in_stack

      -- the handler's entry, where there is a frame
      begun_by : (s : EngineRow) (k : Handed) (fs : List Frame) → k ≡ handed_at s e handler → 0 < length fs
          → record s { state = record s.state { granules = words_written s.state.granules (record_place s.region.ram (register (thread s t) 2)) (record_words (thread s t) why); threads = set s.state.threads t (handled_over k (thread s t) why fs) } }
          ≡ handler_begun s e t handler why fs
      begun_by s k [] same some = absurd (omega (arith, some))
      begun_by s k (f ∷ fs) same some = rw same refl

      -- by what is seen before the trap
      pub entered_seen : Turn (recorded gs r why) (recorded gs r why) rows rows t r (handling_row (handed_in gs e r handler) r why) true true
          → engine_view (recorded gs r why) (turned rows rows t (handling_row (handed_in gs e r handler) r why))
          ≡ handler_begun (engine_view gs rows) e t handler why (thread (engine_view gs rows) t).frames
      entered_seen turn =
          let s : EngineRow = engine_view gs rows in
          let k : Handed = handed_in gs e r handler in
          let new : EngineRow → Thread = λ x. handled_over k (thread x t) why (thread x t).frames in
          let put : ℕ → Cap → Thread → EngineRow = λ ram c u. record s {
            state = record s.state {
              granules = words_written s.state.granules (record_place ram c) (record_by u.registers (cap_address u.pcc) why);
              threads = set s.state.threads t (new s);
            };
          } in
          turn_sees turn (new s)
          (handled_thread (recorded gs r why) r k why ready.alive
          ∙ ap (λ (u : Thread). handled_over k u why u.frames) (sym (running_thread with_record)) ∙ ap new record_seen)
          ∙ ap (λ (x : EngineRow). with_running (with_thread x t (new s)) rows.running) record_seen
          ∙ ap (λ (u : Thread). put r.area.ram (register u 2) u) (sym (running_is h))
          ∙ ap (λ n. put n (register (thread s t) 2) (thread s t)) (running_lies h).base
          ∙ begun_by s k (thread s t).frames (handed_is (may.enterable say.some)) (running_some h)

    -- ---- whether it is entered or not

    pub trap_turn : (why : Trap) (b : Bool) (hs : List Granule) (q : row.Thread) → b ≡ is_handled_in r handler → hs ≡ memory_by b gs r why
        → q ≡ row_by b gs e r handler why → Turn hs hs rows rows t r q true true
    trap_turn why true hs q which memory row_is =
        let with_it = with_record why (sym which) in
        rw (memory, row_is) (running_turn with_it (unchanged (recorded gs r why) (area_begin r.area) (area_end r.area)) refl
        (kept_as (recorded gs r why) true r (handling_row (handed_in gs e r handler) r why) (running_lies with_it).kept refl refl refl))
    trap_turn why false hs q which memory row_is =
        rw (memory, row_is) (running_turn h (unchanged gs (area_begin r.area) (area_end r.area)) refl (running_lies h).kept)

    pub trap_sees : (why : Trap) (b : Bool) (hs : List Granule) (q : row.Thread) → b ≡ is_handled_in r handler → hs ≡ memory_by b gs r why
        → q ≡ row_by b gs e r handler why → engine_view hs (turned rows rows t q) ≡ after_trap (engine_view gs rows) e t handler why
    trap_sees why b hs q which memory row_is =
        let s : EngineRow = engine_view gs rows in
        by_case b hs q which memory row_is (trap_turn why b hs q which memory row_is)
        ∙ ap (λ x. cond x (handler_begun s e t handler why (thread s t).frames) s) (which ∙ handled_is)
      where
        by_case : (b : Bool) (hs : List Granule) (q : row.Thread) → b ≡ is_handled_in r handler → hs ≡ memory_by b gs r why
            → q ≡ row_by b gs e r handler why → Turn hs hs rows rows t r q true true
            → engine_view hs (turned rows rows t q)
            ≡ cond b (handler_begun (engine_view gs rows) e t handler why (thread (engine_view gs rows) t).frames) (engine_view gs rows)
        by_case true hs q which memory row_is turn = rw (memory, row_is) (entered_seen why (sym which) (rw (memory, row_is) at turn))
        by_case false hs q which memory row_is turn = rw (memory, row_is) (turn_stays (rw (memory, row_is) at turn) refl)
