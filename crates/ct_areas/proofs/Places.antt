-- Where an area's parts lie, and a thread by how many frames it has.
use Rattle.std.proofs.Common.{ℕ, zero, suc, ◌≡◌, ◌+◌, ◌-◌, ◌*◌, ◌/◌, ◌%◌, ◌==◌, ◌<◌, ◌≤◌, ◌⊎◌, inl, inr, Bool, false, List, refl, sym, arith, subst}
use Rattle.def_profile.specs.Areas.{area_length, frame_after}
use Rattle.law_lists.proofs.Tests.{eq_tells}
use Rattle.def_memory.specs.declared.Granule.{Granule}
use Rattle.def_memory.specs.Ranges.{zeroed_from}
use Rattle.def_areas.specs.Areas.{frame_place, frames_in}
use Rattle.def_areas.specs.Touches.{Touches}
use Rattle.law_areas.proofs.Changes.{zeroed_touches, touches_more}
use Rattle.law_areas.proofs.Frames.{frames_none}
use Rattle.ct_areas.specs.declared.thread.Area.{Area}
use Rattle.ct_areas.specs.declared.thread.Thread as row
use Rattle.ct_areas.specs.Threads.{HasArea, area_begin, area_end, frames_most, living, thread_of}
use Rattle.ct_areas.specs.Parts.{frame_address}

long_numbers : (ram trusted len most : ℕ) → ram % 16 ≡ 0 → trusted % 16 ≡ 0 → ram ≤ trusted → len ≡ area_length most
    → (trusted + len - ram) / 8 ≡ (trusted - ram) / 8 + 20 + 8 * most
long_numbers ram trusted len most r t low is = omega (arith, r, t, low, is)

-- an area is its head and its frames
pub area_long : (size : ℕ) (a : Area) → HasArea size a → area_end a ≡ frame_place (area_begin a) (frames_most a)
area_long size a has = long_numbers a.ram a.trusted a.trusted_length (frames_most a) has.ram has.even has.low has.whole

inside_numbers : (ram trusted len size : ℕ) → ram % 16 ≡ 0 → trusted % 16 ≡ 0 → ram ≤ trusted → trusted + len ≤ ram + 8 * size
    → (trusted + len - ram) / 8 ≤ size
inside_numbers ram trusted len size r t low high = omega (arith, low, high)

-- in RAM of so many granules
pub area_inside : (size : ℕ) (a : Area) → HasArea (8 * size) a → area_end a ≤ size
area_inside size a has = inside_numbers a.ram a.trusted a.trusted_length size has.ram has.even has.low has.high

begin_numbers : (ram trusted : ℕ) → ram % 16 ≡ 0 → trusted % 16 ≡ 0 → ram ≤ trusted → trusted - ram ≡ 8 * ((trusted - ram) / 8)
begin_numbers ram trusted r t low = omega (arith, r, t, low)

pub area_even : (size : ℕ) (a : Area) → HasArea size a → a.trusted - a.ram ≡ 8 * area_begin a
area_even size a has = begin_numbers a.ram a.trusted has.ram has.even has.low

offset_numbers : (ram trusted n begin : ℕ) → ram ≤ trusted → trusted - ram ≡ 8 * begin → frame_after trusted n - ram ≡ 8 * (begin + 20 + 8 * n)
offset_numbers ram trusted n begin low is = omega (arith, low, is)

-- a frame's offset
pub frame_offset_is : (size : ℕ) (a : Area) (n : ℕ) → HasArea size a → frame_address a n - a.ram ≡ 8 * frame_place (area_begin a) n
frame_offset_is size a n has = offset_numbers a.ram a.trusted n (area_begin a) has.low (area_even size a has)

pub frame_low : (size : ℕ) (a : Area) (n : ℕ) → HasArea size a → a.ram ≤ frame_address a n
frame_low size a n has = omega (arith, has.low)

-- the granules of a frame for which there is room
pub frame_inside : (n size : ℕ) (a : Area) → HasArea (8 * size) a → n < frames_most a → frame_place (area_begin a) (suc n) ≤ size
frame_inside n size a has room =
    numbers (area_begin a) (area_end a) (frames_most a) (area_long (8 * size) a has) (area_inside size a has) room
  where
    numbers : (begin end most : ℕ) → end ≡ frame_place begin most → end ≤ size → n < most → frame_place begin (suc n) ≤ size
    numbers begin end most is le lt = omega (arith, is, le, lt)

-- ---- what changes

pub area_touches : (lo hi size : ℕ) (a : Area) (gs hs : List Granule) → HasArea size a → area_begin a ≤ lo → hi ≤ frame_place (area_begin a) (frames_most a)
    → Touches lo hi gs hs → Touches (area_begin a) (area_end a) gs hs
area_touches lo hi size a gs hs has from to touches =
    touches_more lo hi (area_begin a) (area_end a) gs hs from (subst (λ n. hi ≤ n) (sym (area_long size a has)) to) touches

pub frame_touches : (n size : ℕ) (a : Area) (gs hs : List Granule) → HasArea size a → n < frames_most a
    → Touches (frame_place (area_begin a) n) (frame_place (area_begin a) n + 8) gs hs → Touches (area_begin a) (area_end a) gs hs
frame_touches n size a gs hs has room touches =
    area_touches (frame_place (area_begin a) n) (frame_place (area_begin a) n + 8) size a gs hs has (omega arith) (omega (arith, room)) touches

-- granules that are zeroed, by the address of the first
pub granules_zeroed : (gs : List Granule) (ram from place n : ℕ) → ram ≤ from → from - ram ≡ 8 * place
    → Touches place (place + n) gs (zeroed_from from (from + 8 * n) ram gs)
granules_zeroed gs ram from place n low is =
    let begin : (from - ram) / 8 ≡ place = omega (arith, is) in
    let end : (from + 8 * n - ram) / 8 ≡ place + n = omega (arith, low, is) in
    rw (begin, end) at (zeroed_touches gs ram from (from + 8 * n) low (omega (arith, low, is)) (omega (arith, low, is)))

-- ---- how many frames

pub some_depth : (n : ℕ) → 0 < n → (n == 0) ≡ false
some_depth n lt = elim (eq_tells n 0) [ inl e ↦ absurd (omega (arith, lt, e.1)) | inr e ↦ e.0 ]

pub depth_tells : (n : ℕ) → (n ≡ 0) ⊎ ((0 < n) × ((n == 0) ≡ false))
depth_tells zero = inl refl
depth_tells (suc n) = inr (omega arith, some_depth (suc n) (omega arith))

pub frames_of : (gs : List Granule) (runs : Bool) (t : row.Thread)
    → (thread_of gs runs t).frames ≡ frames_in gs (area_begin t.area) t.actor t.top t.handling t.depth
frames_of gs runs t = elim (depth_tells t.depth) [
  | inl e ↦ rw e (sym (frames_none gs (area_begin t.area) t.actor t.top t.handling))
  | inr e ↦ rw e.1 refl
]

pub alive_is : (gs : List Granule) (runs : Bool) (t : row.Thread) → 0 < t.depth → thread_of gs runs t ≡ living gs runs t
alive_is gs runs t some = rw (some_depth t.depth some) refl
