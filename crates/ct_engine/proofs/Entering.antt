-- A call: what the switch comes to, by what is seen, and what is left.
use Rattle.std.proofs.Common.{ℕ, ◌≡◌, ◌+◌, ◌-◌, ◌*◌, ◌/◌, ◌≤◌, true, false, List, length, refl, sym, ap, ◌∙◌, arith, subst}
use Rattle.ct_entry.specs.Listed.{Listed}
use Rattle.def_words.specs.declared.Cap.{Cap}
use Rattle.def_words.specs.Seals.{cap_seal}
use Rattle.def_memory.specs.declared.Granule.{Granule}
use Rattle.def_reach.specs.Roots.{root_of}
use Rattle.def_machine.specs.Image.{Image}
use Rattle.def_machine.specs.State.{Thread, register}
use Rattle.def_machine.specs.Frames.{callee_start, entered_by}
use Rattle.def_step.specs.Switch.{Switched, Trapped, TooDeep, NoStack, Enters, frame_top}
use Rattle.def_memory.specs.Granules.{cap_in}
use Rattle.def_areas.specs.Touches.{Touches}
use Rattle.law_hidden.proofs.Granules.{with_hidden_length, seen_at}
use Rattle.ct_areas.specs.declared.thread.Thread as row
use Rattle.ct_areas.specs.Threads.{area_begin, area_end, frames_most, thread_of}
use Rattle.ct_areas.specs.Parts.{register_in}
use Rattle.ct_switch.specs.Exports.{IsCallable, callee_of, table_of}
use Rattle.ct_switch.specs.Ready as ready
use Rattle.ct_switch.specs.Calls.{switch_in, thread_after, given_in}
use Rattle.ct_switch.proofs.Failing.{checks_passed}
use Rattle.ct_threads.specs.Kept.{IsKept}
use Rattle.ct_threads.specs.Rows.{cleared}
use Rattle.ct_threads.proofs.Entering.{enters_by, top_under}
use Rattle.ct_engine.specs.declared.rows.Rows.{Rows}
use Rattle.ct_engine.specs.Seen.{EngineRow, hidden, engine_view, thread, area_at}
use Rattle.ct_engine.specs.Calls.{HeadStands, IsEnterable, MayCall, head_at, switch_at, given_at, switched, after_call}
use Rattle.ct_engine.proofs.Whole.{Turn, turned, turn_stays}
use Rattle.ct_engine.proofs.Goes.{Runner, running_lies, running_thread, running_top, running_turn, register_is}
use Rattle.ct_engine.proofs.Stacks.{running_area, ready_is}
use Rattle.ct_engine.proofs.Turning.{zeroed_runner, switched_seen}

-- ---- what the head of an export's table holds, as it is seen

pub head_seen : {gs : List Granule} {rows : Rows} {t : ℕ} {r : row.Thread} → Runner gs rows t r → (e : Listed) (export : ℕ)
    → IsEnterable (engine_view gs rows) e export
    → (cap_in gs ((table_of e (callee_of e export) - r.area.ram) / 8) ≡ cap_in (engine_view gs rows).state.granules (head_at (engine_view gs rows) e export))
    × (cap_in gs ((table_of e (callee_of e export) - r.area.ram) / 8 + 1) ≡ cap_in (engine_view gs rows).state.granules (head_at (engine_view gs rows) e export + 1))
head_seen {gs} {rows} h e export open_ =
    let head : ℕ = head_at (engine_view gs rows) e export in
    let place = ap (λ n. (table_of e (callee_of e export) - n) / 8) (running_lies h).base in
    let seen : (k : ℕ) → hidden gs rows k ≡ false → cap_in gs k ≡ cap_in (engine_view gs rows).state.granules k =
    λ k shown. sym (ap (λ (g : Granule). g.cap) (seen_at (hidden gs rows) gs k shown)) in
    (ap (λ n. cap_in gs n) place ∙ seen head open_.code, ap (λ n. cap_in gs (n + 1)) place ∙ seen (head + 1) open_.globals)

-- ---- the switch

module _ {gs : List Granule} {rows : Rows} {t : ℕ} {r : row.Thread} (h : Runner gs rows t r) (e : Listed) where
  pub switch_is : switch_in gs e r ≡ switch_at (engine_view gs rows) e t
  switch_is = rw (running_area h, running_top h, running_thread h) refl

  given_is : (export high : ℕ) → IsEnterable (engine_view gs rows) e export
      → given_in gs e r export high ≡ given_at (engine_view gs rows) e t export high
  given_is export high open_ =
      let head = head_seen h e export open_ in
      rw (head.0, head.1, running_area h, register_is h 2) refl

  module _ (may : MayCall (engine_view gs rows) t e) where
    -- what is asked of the row
    pub may_is : ready.MayCall gs r e
    may_is =
        let v : EngineRow = engine_view gs rows in
        let root : Cap → ℕ = λ c. (root_of e c.shadow.root).of in
        let size : length v.state.granules ≡ length gs = with_hidden_length (hidden gs rows) gs in
        record {
          ready = ready_is h may.top;
          sorted = may.sorted;
          import = λ tagged sealed.
              subst (λ n. IsCallable e n (8 * length gs) (root (register_in r 6))) (sym (running_lies h).base)
              (subst (λ n. IsCallable e rows.region.ram (8 * n) (root (register_in r 6))) size
              (subst (λ (c : Cap). IsCallable e rows.region.ram (8 * length v.state.granules) (root c)) (register_is h 6)
              (may.import (ap (λ (c : Cap). c.tag) (register_is h 6) ∙ tagged) (ap cap_seal (register_is h 6) ∙ sealed)).callable));
        }

    -- the export that is entered is open
    open_is : (export high : ℕ) → switch_in gs e r ≡ Enters export high → IsEnterable (engine_view gs rows) e export
    open_is export high enters =
        let s : Thread = thread (engine_view gs rows) t in
        let base : ℕ = (area_at (engine_view gs rows) t).stack in
        let by = enters_by e base (frame_top s.frames) (frames_most (area_at (engine_view gs rows) t)) s export high (sym switch_is ∙ enters) in
        let passed = checks_passed base (frame_top s.frames) (register s 1) (register s 6) (register s 2) by.passed in
        subst (λ n. IsEnterable (engine_view gs rows) e n) (sym by.export_is) (may.import passed.tagged passed.import)

    -- the new top lies in the stack
    high_fits : (export high : ℕ) → switch_in gs e r ≡ Enters export high → high ≤ r.area.stack + r.area.stack_length
    high_fits export high enters =
        let by = enters_by e r.area.stack r.top (frames_most r.area) (thread_of gs true r) export high enters in
        let under = top_under e r.area.stack r.top (frames_most r.area) (thread_of gs true r) export high by in
        let top = (ready_is h may.top).high in
        omega (arith, under, top)

    -- ---- what it leaves

    cleared_runner : (w : Switched) → switch_in gs e r ≡ w → Runner (cleared gs r w) rows t r
    cleared_runner (Trapped why) is = h
    cleared_runner TooDeep is = h
    cleared_runner NoStack is = h
    cleared_runner (Enters export high) is = zeroed_runner h high (high_fits export high is)

    pub call_turn : {hs : List Granule} {q : row.Thread} (w : Switched) → switch_in gs e r ≡ w
        → Touches (area_begin r.area) (area_end r.area) (cleared gs r w) hs → q.area ≡ r.area → IsKept hs true q
        → Turn (cleared gs r w) hs rows rows t r q true true
    call_turn w is touches place kept = running_turn (cleared_runner w is) touches place kept

    pub call_sees : {hs : List Granule} {q : row.Thread} (w : Switched) (is : switch_in gs e r ≡ w) → Turn (cleared gs r w) hs rows rows t r q true true
        → thread_of hs true q ≡ thread_after gs e r w → engine_view hs (turned rows rows t q) ≡ after_call (engine_view gs rows) e t w
    call_sees (Trapped why) is turn same = turn_stays turn same
    call_sees TooDeep is turn same = turn_stays turn same
    call_sees NoStack is turn same = turn_stays turn same
    call_sees (Enters export high) is turn same =
        let s : EngineRow = engine_view gs rows in
        let callee : ℕ = callee_of e export in
        switched_seen h high (high_fits export high is) turn (thread_after gs e r (Enters export high)) same
        ∙ ap (λ u. switched s t high (entered_by e u callee export high (given_in gs e r export high)) rows.running) (sym (running_thread h))
        ∙ ap (λ g. switched s t high (entered_by e (thread s t) callee export high g) rows.running)
        (given_is export high (open_is export high is))

-- ---- as boot made it

pub given_made : (i : Image) (s : EngineRow) (t export high : ℕ) → HeadStands i s t export
    → given_at s i.entries t export high ≡ callee_start i (thread s t) t (callee_of i.entries export) export high
given_made i s t export high h = rw (h.code, h.globals, h.back, h.stack) refl
