-- A start, a frame more and a frame less, as threads.
use Rattle.std.proofs.Common.{ℕ, suc, ◌≡◌, ◌+◌, ◌-◌, ◌*◌, ◌/◌, ◌%◌, ◌^◌, ◌==◌, ◌<◌, ◌≤◌, inl, Bool, true, false, List, [], ◌∷◌, length, refl, ap, ◌∙◌, arith}
use Rattle.def_words.specs.declared.Cap.{Cap}
use Rattle.def_memory.specs.declared.Granule.{Granule}
use Rattle.def_memory.specs.Granules.{plain, cap_in, holding}
use Rattle.def_memory.specs.Accesses.{loaded_cap}
use Rattle.def_machine.specs.State.{Thread, Frame, outermost}
use Rattle.def_machine.specs.Frames.{pushed_frame}
use Rattle.def_areas.specs.Areas.{frame_place, frame_at, frames_in, frame_words, low_half, caller_actor, caller_top, caller_handling}
use Rattle.def_areas.specs.Touches.{Touches}
use Rattle.law_areas.proofs.Writes.{put_same, put_other}
use Rattle.law_areas.proofs.Frames.{frames_same, frames_next, frames_none, frame_written}
use Rattle.law_areas.proofs.Changes.{all_touches}
use Rattle.ct_areas.specs.declared.thread.Area.{Area}
use Rattle.ct_areas.specs.declared.thread.Thread as row
use Rattle.ct_areas.specs.Threads.{HasArea, area_begin, area_end, frames_most, living, thread_of, first}
use Rattle.ct_areas.specs.Parts.{saved_of, register_in, with_frame, deeper, pushed, inner_place, inner_frame, outer_frames, frame_address, frame_cleared, without_frame, shallower}
use Rattle.ct_areas.proofs.Places.{area_long, area_touches, frame_inside, frame_touches, granules_zeroed, frame_low, frame_offset_is, some_depth, frames_of}

-- ---- a start

first_frames : (gs : List Granule) (a actor top export : ℕ) → export < 2 ^ 32 → frame_place a 1 ≤ length gs
    → ((k : ℕ) → frame_place a 0 ≤ k → k < frame_place a 1 → cap_in gs k ≡ plain 0)
    → frames_in (holding gs (frame_place a 0 + 5) (plain export)) a actor top false 1 ≡ outermost actor export top ∷ []
first_frames gs a actor top export small inside clear =
    let k : ℕ = frame_place a 0 in
    let hs : List Granule = holding gs (k + 5) (plain export) in
    let other : (m : ℕ) → k ≤ m → m < k + 5 → cap_in hs m ≡ plain 0 = λ m lo hi.
    ap (λ (g : Granule). g.cap) (put_other gs (k + 5) m (plain export) (λ e. omega (arith, e, hi))) ∙ clear m lo (omega (arith, hi)) in
    let e0 : cap_in hs k ≡ plain 0 = other k (omega arith) (omega arith) in
    let e1 : cap_in hs (k + 1) ≡ plain 0 = other (k + 1) (omega arith) (omega arith) in
    let e2 : cap_in hs (k + 2) ≡ plain 0 = other (k + 2) (omega arith) (omega arith) in
    let e3 : cap_in hs (k + 3) ≡ plain 0 = other (k + 3) (omega arith) (omega arith) in
    let e4 : cap_in hs (k + 4) ≡ plain 0 = other (k + 4) (omega arith) (omega arith) in
    let e5 : cap_in hs (k + 5) ≡ plain export = put_same gs (k + 5) (plain export) (omega (arith, inside)) in
    let w : low_half (cap_in hs (k + 5)) ≡ export = ap low_half e5 ∙ (let is : export % 2 ^ 32 ≡ export = omega (arith, small) in is) in
    let f : frame_at hs k actor top false ≡ outermost actor export top = rw (e0, e1, e2, e3, e4, w) refl in
    frames_next hs a actor top false 0
    ∙ ap (λ fs. frame_at hs k actor top false ∷ fs) (frames_none hs a (caller_actor hs k) (caller_top hs k) (caller_handling hs k))
    ∙ ap (λ g. g ∷ []) f

-- what the start writes into its first frame, by the addresses of the code
pub first_wrote : (gs hs : List Granule) (at export : ℕ) (a : Area) (c : Cap) → at ≡ 8 * frame_place (area_begin a) 0 → c ≡ plain export
    → hs ≡ holding gs ((at + 40) / 8) c → hs ≡ holding gs (frame_place (area_begin a) 0 + 5) (plain export)
first_wrote gs hs at export a c place word wrote =
    let here : (at + 40) / 8 ≡ frame_place (area_begin a) 0 + 5 = omega (arith, place) in
    wrote ∙ ap (λ k. holding gs k c) here ∙ ap (λ x. holding gs (frame_place (area_begin a) 0 + 5) x) word

pub first_is : (gs : List Granule) (t : row.Thread) (export : ℕ) → HasArea (8 * length gs) t.area → t.depth ≡ 1 → t.handling ≡ false → export < 2 ^ 32
    → ((k : ℕ) → area_begin t.area ≤ k → k < area_end t.area → cap_in gs k ≡ plain 0)
    → thread_of (holding gs (frame_place (area_begin t.area) 0 + 5) (plain export)) true t ≡ first t.pcc t.regs t.posture t.actor export t.top
first_is gs t export has one unhandled small clear =
    let long = area_long (8 * length gs) t.area has in
    let some = has.some in
    let frames = first_frames gs (area_begin t.area) t.actor t.top export small
    (frame_inside 0 (length gs) t.area has some)
    (λ k lo hi. clear k (omega (arith, lo)) (below k (area_begin t.area) (area_end t.area) (frames_most t.area) hi long some)) in
    rw (one, unhandled) (ap (λ (fs : List Frame). let l : Thread = record (first t.pcc t.regs t.posture t.actor export t.top) { frames = fs } in l) frames)
  where
    below : (k a end most : ℕ) → k < frame_place a 1 → end ≡ frame_place a most → 1 ≤ most → k < end
    below k a end most lt is some = omega (arith, lt, is, some)

pub first_touches : (gs : List Granule) (a : Area) (export : ℕ) → HasArea (8 * length gs) a
    → Touches (area_begin a) (area_end a) gs (holding gs (frame_place (area_begin a) 0 + 5) (plain export))
first_touches gs a export has =
    let k : ℕ = frame_place (area_begin a) 0 + 5 in
    let some = has.some in
    area_touches k (k + 1) (8 * length gs) a gs (holding gs k (plain export)) has (omega arith) (omega (arith, some)) (all_touches gs k (plain export ∷ []))

-- ---- a frame more

pub pushed_is : (gs hs : List Granule) (t q : row.Thread) (actor export top : ℕ) → HasArea (8 * length gs) t.area → 0 < t.depth → t.depth < frames_most t.area
    → export < 2 ^ 32 → t.top < 2 ^ 32 → hs ≡ with_frame gs t export → q ≡ deeper t actor top
    → thread_of hs true q ≡ pushed (thread_of gs true t) actor export top
pushed_is gs hs t q actor export top has alive room small low wrote row_is =
    let more : (t.depth + 1 == 0) ≡ false = some_depth (t.depth + 1) (omega arith) in
    let now : (t.depth == 0) ≡ false = some_depth t.depth alive in
    let next : t.depth + 1 ≡ suc t.depth = omega arith in
    let written = frame_written gs (area_begin t.area) t.actor t.top t.handling t.depth actor export top
    (register_in t 1) (register_in t 2) (register_in t 3) (register_in t 8) (register_in t 9) small low
    (frame_inside t.depth (length gs) t.area has room) in
    let frames : frames_in (with_frame gs t export) (area_begin t.area) actor top false (t.depth + 1)
    ≡ pushed_frame (living gs true t) actor export top ∷ frames_in gs (area_begin t.area) t.actor t.top t.handling t.depth =
    rw next written in
    rw (wrote, row_is, more, now) (ap (λ (fs : List Frame). let l : Thread = record (living gs true t) { frames = fs } in l) frames)

pub pushed_touches : (gs : List Granule) (t : row.Thread) (export : ℕ) → HasArea (8 * length gs) t.area → t.depth < frames_most t.area
    → Touches (area_begin t.area) (area_end t.area) gs (with_frame gs t export)
pushed_touches gs t export has room =
    frame_touches t.depth (8 * length gs) t.area gs (with_frame gs t export) has room
    (all_touches gs (frame_place (area_begin t.area) t.depth) (frame_words (saved_of t) export t.actor t.top t.handling))

-- ---- a frame less

cleared_touches : (size : ℕ) (gs : List Granule) (a : Area) (n : ℕ) → HasArea size a
    → Touches (frame_place (area_begin a) n) (frame_place (area_begin a) n + 8) gs (frame_cleared gs a n)
cleared_touches size gs a n has =
    granules_zeroed gs a.ram (frame_address a n) (frame_place (area_begin a) n) 8 (frame_low size a n has) (frame_offset_is size a n has)

pub popped_frames : (gs hs : List Granule) (t q : row.Thread) (size : ℕ) → HasArea size t.area → 0 < t.depth
    → hs ≡ without_frame gs t → q ≡ shallower gs t → (thread_of hs true q).frames ≡ outer_frames gs t
popped_frames gs hs t q size has some wrote row_is =
    let j : ℕ = t.depth - 1 in
    let touches = cleared_touches size gs t.area j has in
    rw (wrote, row_is) (frames_of (without_frame gs t) true (shallower gs t)
    ∙ frames_same gs (without_frame gs t) (area_begin t.area) (caller_actor gs (inner_place t)) (caller_top gs (inner_place t)) (caller_handling gs (inner_place t)) j
    (λ m lo hi. ap (λ (g : Granule). g.cap) (touches.rest m (inl hi))))

-- what is read of the frame, and the row without it
pub shallower_is : (gs : List Granule) (t : row.Thread) (at : ℕ) (c5 c6 c7 : Cap) (whose top mark : ℕ × ℕ) → at ≡ 8 * inner_place t
    → c5 ≡ loaded_cap gs (at + 40) → c6 ≡ loaded_cap gs (at + 48) → c7 ≡ loaded_cap gs (at + 56)
    → whose ≡ (c5.word % 2 ^ 32, c5.word / 2 ^ 32) → top ≡ (c6.word % 2 ^ 32, c6.word / 2 ^ 32) → mark ≡ (c7.word % 2 ^ 32, c7.word / 2 ^ 32)
    → record t { depth = t.depth - 1; top = top.0; actor = whose.1; handling = mark.0 == 1 } ≡ shallower gs t
shallower_is gs t at c5 c6 c7 whose top mark place is5 is6 is7 whose_is top_is mark_is =
    let e5 : (at + 40) / 8 ≡ inner_place t + 5 = omega (arith, place) in
    let e6 : (at + 48) / 8 ≡ inner_place t + 6 = omega (arith, place) in
    let e7 : (at + 56) / 8 ≡ inner_place t + 7 = omega (arith, place) in
    let p5 : c5 ≡ cap_in gs (inner_place t + 5) = is5 ∙ ap (λ k. cap_in gs k) e5 in
    let p6 : c6 ≡ cap_in gs (inner_place t + 6) = is6 ∙ ap (λ k. cap_in gs k) e6 in
    let p7 : c7 ≡ cap_in gs (inner_place t + 7) = is7 ∙ ap (λ k. cap_in gs k) e7 in
    rw (whose_is, top_is, mark_is, p5, p6, p7) refl

pub popped_touches : (size : ℕ) (gs : List Granule) (t : row.Thread) → HasArea size t.area → 0 < t.depth → t.depth ≤ frames_most t.area
    → Touches (area_begin t.area) (area_end t.area) gs (without_frame gs t)
popped_touches size gs t has some room =
    frame_touches (t.depth - 1) size t.area gs (without_frame gs t) has (omega (arith, some, room)) (cleared_touches size gs t.area (t.depth - 1) has)

-- the frames of a thread that has some: the innermost, and those below it
pub frames_are : (gs : List Granule) (runs : Bool) (t : row.Thread) → 0 < t.depth → (thread_of gs runs t).frames ≡ inner_frame gs t ∷ outer_frames gs t
frames_are gs runs t some =
    let depth : t.depth ≡ suc (t.depth - 1) = omega (arith, some) in
    frames_of gs runs t ∙ ap (λ n. frames_in gs (area_begin t.area) t.actor t.top t.handling n) depth
    ∙ frames_next gs (area_begin t.area) t.actor t.top t.handling (t.depth - 1)
