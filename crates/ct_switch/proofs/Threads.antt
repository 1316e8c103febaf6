-- A call and a frame's end, as threads, and what they leave of other threads.
use Rattle.std.proofs.Common.{ℕ, ◌≡◌, ◌+◌, ◌-◌, ◌*◌, ◌/◌, ◌%◌, ◌==◌, ◌<◌, ◌≤◌, ◌⊎◌, inl, inr, Bool, true, false, List, [], ◌∷◌, length, refl, sym, ap, ◌∙◌, arith, subst}
use Rattle.law_granules.proofs.Lists.{zeroed_length}
use Rattle.ct_entry.specs.Listed.{Listed}
use Rattle.def_words.specs.declared.Cap.{Cap}
use Rattle.def_words.specs.declared.Posture.{Posture}
use Rattle.def_words.specs.Jumped.{opened}
use Rattle.def_words.specs.Seals.{cap_seal, posture_through}
use Rattle.def_memory.specs.declared.Granule.{Granule}
use Rattle.def_memory.specs.Ranges.{zeroed_from}
use Rattle.def_machine.specs.State.{Thread, Frame, nobody}
use Rattle.def_machine.specs.Frames.{Given, entered_by, left_with}
use Rattle.def_areas.specs.Areas.{frames_in, caller_actor, caller_top, caller_handling}
use Rattle.def_areas.specs.Touches.{Touches}
use Rattle.law_areas.proofs.Frames.{frames_none, frames_count}
use Rattle.law_areas.proofs.Changes.{zeroed_touches, touches_more}
use Rattle.ct_areas.specs.declared.thread.Thread as row
use Rattle.ct_areas.specs.Threads.{HasArea, IsApart, area_begin, area_end, frames_most, living, thread_of}
use Rattle.ct_areas.specs.Parts.{IsSpan, with_frame, without_frame, deeper, pushed, shallower, inner_place, inner_frame, outer_frames, filtered_frame, caller_registers}
use Rattle.ct_areas.proofs.Places.{some_depth}
use Rattle.ct_areas.proofs.Same.{touched_same, cleared_same}
use Rattle.ct_areas.proofs.Rows.{frames_are, pushed_touches, popped_touches}
use Rattle.ct_switch.specs.declared.exports.Export.{Export}
use Rattle.ct_switch.specs.Exports.{callee_of, export_of}
use Rattle.ct_switch.specs.Ready.{IsReady, IsOther, stack_begin, stack_end}
use Rattle.ct_switch.specs.Calls.{registers_in, posture_in, entered_thread, after_frame_end, load_filter, thread_left, memory_left, restored_row}

-- ---- the stack's range

span_numbers : (ram base length high size : ℕ) → ram % 16 ≡ 0 → base % 16 ≡ 0 → high % 16 ≡ 0 → ram ≤ base → base ≤ high → high ≤ base + length
    → base + length ≤ ram + size → IsSpan ram size base high
span_numbers ram base length high size r b h low order top inside = record {
  low = low;
  order = order;
  high = omega (arith, top, inside);
  even = omega (arith, r, b);
  whole = omega (arith, r, h);
}

-- from the stack's base up to an address that isn't above the frame's top
pub stack_span : (gs : List Granule) (t : row.Thread) (high : ℕ) → IsReady gs t → t.area.stack ≤ high → high ≤ t.top → high % 16 ≡ 0
    → IsSpan t.area.ram (8 * length gs) t.area.stack high
stack_span gs t high ready low top even =
    let below : high ≤ t.area.stack + t.area.stack_length = omega (arith, top, ready.high) in
    span_numbers t.area.ram t.area.stack t.area.stack_length high (8 * length gs) ready.area.ram ready.stack.even even ready.stack.low low below ready.stack.high

away_numbers : (ram stack length high trusted size : ℕ) → high ≤ stack + length → (stack + length ≤ trusted) ⊎ (trusted + size ≤ stack)
    → ((high - ram) / 8 ≤ (trusted - ram) / 8) ⊎ ((trusted + size - ram) / 8 ≤ (stack - ram) / 8)
away_numbers ram stack length high trusted size below apart = elim apart [ inl a ↦ inl (omega (arith, a, below)) | inr b ↦ inr (omega (arith, b)) ]

pub stack_away : (gs : List Granule) (t : row.Thread) (high : ℕ) → IsReady gs t → high ≤ t.top
    → IsApart ((t.area.stack - t.area.ram) / 8) ((high - t.area.ram) / 8) t.area
stack_away gs t high ready top =
    let below : high ≤ t.area.stack + t.area.stack_length = omega (arith, top, ready.high) in
    away_numbers t.area.ram t.area.stack t.area.stack_length high t.area.trusted t.area.trusted_length below ready.stack.apart

-- zeroing it leaves the thread
pub stack_same : (gs : List Granule) (t : row.Thread) (high : ℕ) → IsReady gs t → t.area.stack ≤ high → high ≤ t.top → high % 16 ≡ 0
    → thread_of (zeroed_from t.area.stack high t.area.ram gs) true t ≡ thread_of gs true t
stack_same gs t high ready low top even =
    cleared_same gs t.area.ram t.area.stack high true t (8 * length gs) ready.area ready.room (stack_span gs t high ready low top even) (stack_away gs t high ready top)

pub order_back : (base high : ℕ) → base ≤ high → base + (high - base) ≡ high
order_back base high le = omega (arith, le)

-- ---- a row that gets other registers

pub dressed : (gs : List Granule) (q : row.Thread) (pcc : Cap) (regs : List Cap) (posture : Posture) → 0 < q.depth
    → thread_of gs true (record q { pcc = pcc; regs = regs; posture = posture })
    ≡ record (thread_of gs true q) { pcc = pcc; registers = regs; posture = posture }
dressed gs q pcc regs posture some = rw (some_depth q.depth some) refl

-- ---- a call

pub entered_is : (gs ms hs : List Granule) (t q : row.Thread) (x : Export) (high : ℕ) (g : Given) → IsReady gs t
    → t.area.stack ≤ high → high ≤ t.top → high % 16 ≡ 0 → ms ≡ zeroed_from t.area.stack (t.area.stack + (high - t.area.stack)) t.area.ram gs
    → thread_of hs true q ≡ pushed (thread_of ms true t) x.callee x.number high → q ≡ deeper t x.callee high
    → thread_of hs true (record q { pcc = g.pcc; regs = registers_in x t.regs g; posture = posture_in x }) ≡ entered_thread (thread_of gs true t) x high g
entered_is gs ms hs t q x high g ready low top even cleared wrote row_is =
    let zeroed : ms ≡ zeroed_from t.area.stack high t.area.ram gs =
    cleared ∙ ap (λ n. zeroed_from t.area.stack n t.area.ram gs) (order_back t.area.stack high low) in
    let same : thread_of ms true t ≡ thread_of gs true t =
    ap (λ l. thread_of l true t) zeroed ∙ stack_same gs t high ready low top even in
    let depth : q.depth ≡ t.depth + 1 = ap (λ (r : row.Thread). r.depth) row_is in
    let some : 0 < q.depth = omega (arith, depth) in
    let put_on : Thread → Thread = λ l. record l { pcc = g.pcc; registers = registers_in x t.regs g; posture = posture_in x } in
    dressed hs q g.pcc (registers_in x t.regs g) (posture_in x) some
    ∙ ap put_on (wrote ∙ ap (λ l. pushed l x.callee x.number high) same)
    ∙ last (some_depth t.depth ready.alive)
  where
    last : (t.depth == 0) ≡ false → record (pushed (thread_of gs true t) x.callee x.number high) { pcc = g.pcc; registers = registers_in x t.regs g; posture = posture_in x }
        ≡ entered_thread (thread_of gs true t) x high g
    last now = rw now refl

-- by the entries
pub entered_same : (e : Listed) (old : Thread) (x : Export) (n high : ℕ) (g : Given) → x ≡ export_of e n
    → entered_thread old x high g ≡ entered_by e old (callee_of e n) n high g
entered_same e old x n high g is = rw is refl

-- ---- a frame's end

pub left_more : (keep : Cap → Cap) (old : Thread) (f : Frame) (fs : List Frame) (first second : Frame → Cap) → 0 < length fs
    → after_frame_end keep old (f ∷ fs) first second ≡ left_with keep old f fs (first f) (second f)
left_more keep old f [] first second some = absurd (omega (arith, some))
left_more keep old f (g ∷ gs) first second some = refl

-- the results count only at the innermost frame
pub left_at : (gs : List Granule) (t : row.Thread) (first second one two : Frame → Cap) → 0 < t.depth
    → first (inner_frame gs t) ≡ one (inner_frame gs t) → second (inner_frame gs t) ≡ two (inner_frame gs t)
    → thread_left gs t first second ≡ thread_left gs t one two
left_at gs t first second one two some same also =
    let frames = frames_are gs true t some in
    let keep = load_filter gs t in
    let old = thread_of gs true t in
    ap (λ fs. after_frame_end keep old fs first second) frames
    ∙ by_frames (outer_frames gs t)
    ∙ sym (ap (λ fs. after_frame_end keep old fs one two) frames)
  where
    by_frames : (fs : List Frame) → after_frame_end (load_filter gs t) (thread_of gs true t) (inner_frame gs t ∷ fs) first second
        ≡ after_frame_end (load_filter gs t) (thread_of gs true t) (inner_frame gs t ∷ fs) one two
    by_frames [] = refl
    by_frames (h ∷ hs) = rw (same, also) refl

-- and not what stood in the registers
pub left_dressed : (gs : List Granule) (t : row.Thread) (rs : List Cap) (first second : Frame → Cap) → 0 < t.depth
    → thread_left gs (record t { regs = rs }) first second ≡ thread_left gs t first second
left_dressed gs t rs first second some =
    let keep = load_filter gs t in
    ap (λ fs. after_frame_end keep (thread_of gs true (record t { regs = rs })) fs first second) (frames_are gs true (record t { regs = rs }) some)
    ∙ by_frames (outer_frames gs t) (some_depth t.depth some)
    ∙ sym (ap (λ fs. after_frame_end keep (thread_of gs true t) fs first second) (frames_are gs true t some))
  where
    by_frames : (fs : List Frame) → (t.depth == 0) ≡ false
        → after_frame_end (load_filter gs t) (thread_of gs true (record t { regs = rs })) (inner_frame gs t ∷ fs) first second
        ≡ after_frame_end (load_filter gs t) (thread_of gs true t) (inner_frame gs t ∷ fs) first second
    by_frames [] now = refl
    by_frames (h ∷ hs) now = rw now refl

-- the last frame ends
pub left_last : (gs : List Granule) (t : row.Thread) (first second : Frame → Cap) → t.depth ≡ 1 → thread_left gs t first second ≡ nobody
left_last gs t first second one =
    let frames = frames_are gs true t (omega (arith, one)) in
    let none : outer_frames gs t ≡ [] =
    ap (λ n. frames_in gs (area_begin t.area) (caller_actor gs (inner_place t)) (caller_top gs (inner_place t)) (caller_handling gs (inner_place t)) (n - 1)) one
    ∙ frames_none gs (area_begin t.area) (caller_actor gs (inner_place t)) (caller_top gs (inner_place t)) (caller_handling gs (inner_place t)) in
    ap (λ fs. after_frame_end (load_filter gs t) (thread_of gs true t) fs first second) (frames ∙ ap (λ fs. inner_frame gs t ∷ fs) none)

-- the stack is zeroed after the frame went: the thread stays
pub popped_same : (gs ms : List Granule) (t q : row.Thread) → IsReady gs t → length ms ≡ length gs → q ≡ shallower gs t
    → thread_of (zeroed_from t.area.stack t.top t.area.ram ms) true q ≡ thread_of ms true q
popped_same gs ms t q ready size row_is =
    rw row_is (cleared_same ms t.area.ram t.area.stack t.top true (shallower gs t) (8 * length gs) ready.area (less t.depth (frames_most t.area) ready.room)
    (stack_span gs t t.top ready ready.low (omega arith) ready.even) (stack_away gs t t.top ready (omega arith)))
  where
    less : (depth most : ℕ) → depth ≤ most → depth - 1 ≤ most
    less depth most le = omega (arith, le)

pub left_is : (gs ms hs : List Granule) (t q : row.Thread) (first second : Cap) → IsReady gs t → length ms ≡ length gs
    → (thread_of ms true q).frames ≡ outer_frames gs t → q ≡ shallower gs t → hs ≡ zeroed_from t.area.stack t.top t.area.ram ms → 0 < q.depth
    → thread_of hs true (restored_row q (inner_frame gs t) (filtered_frame gs t.area.ram (inner_frame gs t)) first second)
    ≡ thread_left gs t (λ f. first) (λ f. second)
left_is gs ms hs t q first second ready size frames row_is cleared some =
    let f : Frame = inner_frame gs t in
    let kept = filtered_frame gs t.area.ram f in
    let depth : q.depth ≡ t.depth - 1 = ap (λ (r : row.Thread). r.depth) row_is in
    let posture : q.posture ≡ t.posture = ap (λ (r : row.Thread). r.posture) row_is in
    let same : thread_of hs true q ≡ thread_of ms true q = ap (λ l. thread_of l true q) cleared ∙ popped_same gs ms t q ready size row_is in
    let ended : Posture = posture_through q.posture (cap_seal f.c1) 0 f.c1.shadow.source in
    let put_on : Thread → Thread = λ l. record l { pcc = opened kept.c1; registers = caller_registers kept first second; posture = ended } in
    let made : thread_of hs true (restored_row q f kept first second) ≡ put_on (thread_of ms true q) =
    dressed hs q (opened kept.c1) (caller_registers kept first second) ended some ∙ ap put_on same in
    let whole : put_on (thread_of ms true q) ≡ left_with (load_filter gs t) (thread_of gs true t) f (outer_frames gs t) first second =
    last (some_depth q.depth some) (some_depth t.depth ready.alive) posture (rw (some_depth q.depth some) at frames) in
    let more : 0 < length (outer_frames gs t) =
    omega (arith, depth, some, frames_count gs (area_begin t.area) (caller_actor gs (inner_place t)) (caller_top gs (inner_place t)) (caller_handling gs (inner_place t)) (t.depth - 1)) in
    made ∙ whole ∙ sym (ap (λ fs. after_frame_end (load_filter gs t) (thread_of gs true t) fs (λ f. first) (λ f. second)) (frames_are gs true t ready.alive)
    ∙ left_more (load_filter gs t) (thread_of gs true t) f (outer_frames gs t) (λ f. first) (λ f. second) more)
  where
    last : (q.depth == 0) ≡ false → (t.depth == 0) ≡ false → q.posture ≡ t.posture → (living ms true q).frames ≡ outer_frames gs t
        → record (thread_of ms true q) {
          pcc = opened (filtered_frame gs t.area.ram (inner_frame gs t)).c1;
          registers = caller_registers (filtered_frame gs t.area.ram (inner_frame gs t)) first second;
          posture = posture_through q.posture (cap_seal (inner_frame gs t).c1) 0 (inner_frame gs t).c1.shadow.source;
        } ≡ left_with (load_filter gs t) (thread_of gs true t) (inner_frame gs t) (outer_frames gs t) first second
    last alive was posture inner = rw (alive, was, posture, inner) refl

-- ---- other threads

stack_touches : (gs ms : List Granule) (t : row.Thread) (high : ℕ) → IsReady gs t → t.area.stack ≤ high → high ≤ t.top → high % 16 ≡ 0
    → Touches (stack_begin t.area) (stack_end t.area) ms (zeroed_from t.area.stack high t.area.ram ms)
stack_touches gs ms t high ready low top even =
    let span = stack_span gs t high ready low top even in
    touches_more ((t.area.stack - t.area.ram) / 8) ((high - t.area.ram) / 8) (stack_begin t.area) (stack_end t.area) ms (zeroed_from t.area.stack high t.area.ram ms)
    (omega arith) (below t.area.ram high (t.area.stack + t.area.stack_length) (omega (arith, top, ready.high)))
    (zeroed_touches ms t.area.ram t.area.stack high span.low span.even span.whole)
  where
    below : (ram high end : ℕ) → high ≤ end → (high - ram) / 8 ≤ (end - ram) / 8
    below ram high end le = omega (arith, le)

pub entered_others : (gs : List Granule) (t u : row.Thread) (runs : Bool) (export high : ℕ) → IsReady gs t → t.depth < frames_most t.area
    → t.area.stack ≤ high → high ≤ t.top → high % 16 ≡ 0 → IsOther t u (8 * length gs)
    → thread_of (with_frame (zeroed_from t.area.stack high t.area.ram gs) t export) runs u ≡ thread_of gs runs u
entered_others gs t u runs export high ready room low top even other =
    let ms : List Granule = zeroed_from t.area.stack high t.area.ram gs in
    let size : 8 * length gs ≡ 8 * length ms = ap (λ n. 8 * n) (sym (zeroed_length t.area.stack high t.area.ram gs)) in
    let has : HasArea (8 * length ms) t.area = subst (λ n. HasArea n t.area) size ready.area in
    touched_same ms (with_frame ms t export) (area_begin t.area) (area_end t.area) runs u (8 * length gs) other.has other.room other.area (pushed_touches ms t export has room)
    ∙ touched_same gs ms (stack_begin t.area) (stack_end t.area) runs u (8 * length gs) other.has other.room other.stack (stack_touches gs gs t high ready low top even)

pub left_others : (gs : List Granule) (t u : row.Thread) (runs : Bool) → IsReady gs t → IsOther t u (8 * length gs)
    → thread_of (memory_left gs t) runs u ≡ thread_of gs runs u
left_others gs t u runs ready other =
    let ms : List Granule = without_frame gs t in
    touched_same ms (memory_left gs t) (stack_begin t.area) (stack_end t.area) runs u (8 * length gs) other.has other.room other.stack
    (stack_touches gs ms t t.top ready ready.low (omega arith) ready.even)
    ∙ touched_same gs ms (area_begin t.area) (area_end t.area) runs u (8 * length gs) other.has other.room other.area
    (popped_touches (8 * length gs) gs t ready.area ready.alive ready.room)
