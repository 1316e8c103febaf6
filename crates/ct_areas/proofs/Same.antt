-- What leaves a thread as it is.
use Rattle.std.proofs.Common.{ℕ, ◌≡◌, ◌+◌, ◌-◌, ◌/◌, ◌==◌, ◌<◌, ◌≤◌, inl, inr, Bool, cond, List, refl, ap, arith}
use Rattle.def_words.specs.declared.Cap.{Cap}
use Rattle.def_memory.specs.declared.Granule.{Granule}
use Rattle.def_memory.specs.Accesses.{stored, stored_cap}
use Rattle.def_memory.specs.Ranges.{zeroed_from}
use Rattle.def_machine.specs.State.{Thread, nobody}
use Rattle.def_areas.specs.Areas.{frame_place, frames_in}
use Rattle.def_memory.specs.Granules.{cap_in, caps_from}
use Rattle.def_areas.specs.Touches.{Touches}
use Rattle.law_areas.proofs.Writes.{held_same}
use Rattle.law_areas.proofs.Frames.{frames_same}
use Rattle.law_areas.proofs.Changes.{store_touches, store_cap_touches, zeroed_touches}
use Rattle.ct_areas.specs.declared.thread.Thread as row
use Rattle.ct_areas.specs.Threads.{HasArea, IsApart, area_begin, area_end, frames_most, living, thread_of}
use Rattle.ct_areas.specs.Parts.{IsSpan}
use Rattle.ct_areas.proofs.Places.{area_long}

pub living_same : (gs hs : List Granule) (runs : Bool) (t : row.Thread) (size : ℕ) → HasArea size t.area → t.depth ≤ frames_most t.area
    → ((k : ℕ) → area_begin t.area ≤ k → k < area_end t.area → cap_in hs k ≡ cap_in gs k) → living hs runs t ≡ living gs runs t
living_same gs hs runs t size has room same =
    let a : ℕ = area_begin t.area in
    let most : ℕ = frames_most t.area in
    let long : area_end t.area ≡ frame_place a most = area_long size t.area has in
    let pcc : cap_in hs a ≡ cap_in gs a = same a (omega arith) (begins a (area_end t.area) most long) in
    let regs : caps_from hs (a + 1) 15 ≡ caps_from gs (a + 1) 15 =
    held_same gs hs (a + 1) 15 (λ m lo hi. same m (omega (arith, lo)) (before m a (area_end t.area) most hi long)) in
    let frames : frames_in hs a t.actor t.top t.handling t.depth ≡ frames_in gs a t.actor t.top t.handling t.depth =
    frames_same gs hs a t.actor t.top t.handling t.depth (λ m lo hi. same m (omega (arith, lo)) (below m a (area_end t.area) t.depth most hi room long)) in
    rw (pcc, regs, frames) refl
  where
    begins : (a end most : ℕ) → end ≡ frame_place a most → a < end
    begins a end most is = omega (arith, is)

    before : (m a end most : ℕ) → m < a + 1 + 15 → end ≡ frame_place a most → m < end
    before m a end most few is = omega (arith, few, is)

    below : (m a end depth most : ℕ) → m < frame_place a depth → depth ≤ most → end ≡ frame_place a most → m < end
    below m a end depth most few room is = omega (arith, few, room, is)

-- a thread is a function of its row and its area
pub thread_same : (gs hs : List Granule) (runs : Bool) (t : row.Thread) (size : ℕ) → HasArea size t.area → t.depth ≤ frames_most t.area
    → ((k : ℕ) → area_begin t.area ≤ k → k < area_end t.area → cap_in hs k ≡ cap_in gs k) → thread_of hs runs t ≡ thread_of gs runs t
thread_same gs hs runs t size has room same = ap (λ (l : Thread). cond (t.depth == 0) nobody l) (living_same gs hs runs t size has room same)

pub touched_same : (gs hs : List Granule) (lo hi : ℕ) (runs : Bool) (t : row.Thread) (size : ℕ) → HasArea size t.area
    → t.depth ≤ frames_most t.area → IsApart lo hi t.area → Touches lo hi gs hs → thread_of hs runs t ≡ thread_of gs runs t
touched_same gs hs lo hi runs t size has room apart touches =
    thread_same gs hs runs t size has room (λ k from to. ap (λ (g : Granule). g.cap)
    (touches.rest k (elim apart [ inl before ↦ inr (omega (arith, before, from)) | inr after ↦ inl (omega (arith, after, to)) ])))

pub stored_same : (gs : List Granule) (at width value : ℕ) (runs : Bool) (t : row.Thread) (size : ℕ) → HasArea size t.area
    → t.depth ≤ frames_most t.area → IsApart (at / 8) (at / 8 + 1) t.area → thread_of (stored gs at width value) runs t ≡ thread_of gs runs t
stored_same gs at width value runs t size has room apart =
    touched_same gs (stored gs at width value) (at / 8) (at / 8 + 1) runs t size has room apart (store_touches gs at width value)

pub stored_cap_same : (gs : List Granule) (at : ℕ) (c : Cap) (runs : Bool) (t : row.Thread) (size : ℕ) → HasArea size t.area
    → t.depth ≤ frames_most t.area → IsApart (at / 8) (at / 8 + 1) t.area → thread_of (stored_cap gs at c) runs t ≡ thread_of gs runs t
stored_cap_same gs at c runs t size has room apart =
    touched_same gs (stored_cap gs at c) (at / 8) (at / 8 + 1) runs t size has room apart (store_cap_touches gs at c)

pub cleared_same : (gs : List Granule) (ram from to : ℕ) (runs : Bool) (t : row.Thread) (size : ℕ) → HasArea size t.area
    → t.depth ≤ frames_most t.area → IsSpan ram size from to → IsApart ((from - ram) / 8) ((to - ram) / 8) t.area
    → thread_of (zeroed_from from to ram gs) runs t ≡ thread_of gs runs t
cleared_same gs ram from to runs t size has room span apart =
    touched_same gs (zeroed_from from to ram gs) ((from - ram) / 8) ((to - ram) / 8) runs t size has room apart
    (zeroed_touches gs ram from to span.low span.even span.whole)
