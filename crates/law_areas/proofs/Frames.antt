-- Frames as a function of granules: what leaves them, and what is written for one more.
use Rattle.std.proofs.Common.{ℕ, zero, suc, ◌≡◌, ◌+◌, ◌*◌, ◌/◌, ◌%◌, ◌^◌, ◌==◌, ◌<◌, ◌≤◌, inl, Bool, true, false, List, [], ◌∷◌, length, refl, ap, ◌∙◌, arith}
use Rattle.def_words.specs.declared.Cap.{Cap}
use Rattle.def_memory.specs.declared.Granule.{Granule}
use Rattle.def_memory.specs.Granules.{plain, cap_in, holding_all}
use Rattle.def_areas.specs.Areas.{low_half, high_half, frame_place, frame_at, frames_from, frames_in, frame_words, mark_word, caller_actor, caller_top, caller_handling}
use Rattle.law_areas.proofs.Writes.{all_at, all_other}

from_same : (gs hs : List Granule) (a actor top : ℕ) (handling : Bool) (depth : ℕ)
    → ((m : ℕ) → frame_place a 0 ≤ m → m < frame_place a depth → cap_in hs m ≡ cap_in gs m)
    → frames_from hs a actor top handling depth ≡ frames_from gs a actor top handling depth
from_same gs hs a actor top handling zero same = refl
from_same gs hs a actor top handling (suc j) same =
    let k : ℕ = frame_place a j in
    let e0 : cap_in hs k ≡ cap_in gs k = same k (omega arith) (omega arith) in
    let e1 : cap_in hs (k + 1) ≡ cap_in gs (k + 1) = same (k + 1) (omega arith) (omega arith) in
    let e2 : cap_in hs (k + 2) ≡ cap_in gs (k + 2) = same (k + 2) (omega arith) (omega arith) in
    let e3 : cap_in hs (k + 3) ≡ cap_in gs (k + 3) = same (k + 3) (omega arith) (omega arith) in
    let e4 : cap_in hs (k + 4) ≡ cap_in gs (k + 4) = same (k + 4) (omega arith) (omega arith) in
    let e5 : cap_in hs (k + 5) ≡ cap_in gs (k + 5) = same (k + 5) (omega arith) (omega arith) in
    let e6 : cap_in hs (k + 6) ≡ cap_in gs (k + 6) = same (k + 6) (omega arith) (omega arith) in
    let e7 : cap_in hs (k + 7) ≡ cap_in gs (k + 7) = same (k + 7) (omega arith) (omega arith) in
    let rest : frames_from hs a (caller_actor gs k) (caller_top gs k) (caller_handling gs k) j
    ≡ frames_from gs a (caller_actor gs k) (caller_top gs k) (caller_handling gs k) j =
    from_same gs hs a (caller_actor gs k) (caller_top gs k) (caller_handling gs k) j (λ m lo hi. same m lo (omega (arith, hi))) in
    rw (e0, e1, e2, e3, e4, e5, e6, e7, rest) refl

-- frames are a function of the granules in which they stand
pub frames_same : (gs hs : List Granule) (a actor top : ℕ) (handling : Bool) (depth : ℕ)
    → ((m : ℕ) → frame_place a 0 ≤ m → m < frame_place a depth → cap_in hs m ≡ cap_in gs m)
    → frames_in hs a actor top handling depth ≡ frames_in gs a actor top handling depth
unfolding frames_in
frames_same gs hs a actor top handling depth same = from_same gs hs a actor top handling depth same

-- the innermost frame, and those below it
pub frames_next : (gs : List Granule) (a actor top : ℕ) (handling : Bool) (j : ℕ)
    → frames_in gs a actor top handling (suc j)
    ≡ frame_at gs (frame_place a j) actor top handling
    ∷ frames_in gs a (caller_actor gs (frame_place a j)) (caller_top gs (frame_place a j)) (caller_handling gs (frame_place a j)) j
unfolding frames_in
frames_next gs a actor top handling j = refl

pub frames_none : (gs : List Granule) (a actor top : ℕ) (handling : Bool) → frames_in gs a actor top handling 0 ≡ []
unfolding frames_in
frames_none gs a actor top handling = refl

pub frames_count : (gs : List Granule) (a actor top : ℕ) (handling : Bool) (depth : ℕ) → length (frames_in gs a actor top handling depth) ≡ depth
unfolding frames_in
frames_count gs a actor top handling zero = refl
frames_count gs a actor top handling (suc j) =
    ap (λ n. suc n) (frames_count gs a (caller_actor gs (frame_place a j)) (caller_top gs (frame_place a j)) (caller_handling gs (frame_place a j)) j)

halves_low : (x y : ℕ) → x < 2 ^ 32 → (x + y * 2 ^ 32) % 2 ^ 32 ≡ x
halves_low x y lt = omega (arith, lt)

halves_high : (x y : ℕ) → x < 2 ^ 32 → (x + y * 2 ^ 32) / 2 ^ 32 ≡ y
halves_high x y lt = omega (arith, lt)

mark_back : (b : Bool) → (low_half (plain (mark_word b)) == 1) ≡ b
mark_back true = refl
mark_back false = refl

-- a frame that is written above others is the innermost, and they are as they were
pub frame_written : (gs : List Granule) (a actor top : ℕ) (handling : Bool) (depth own export high : ℕ) (c1 c2 c3 c8 c9 : Cap)
    → export < 2 ^ 32 → top < 2 ^ 32 → frame_place a (suc depth) ≤ length gs
    → frames_in (holding_all gs (frame_place a depth) (frame_words (c1 ∷ c2 ∷ c3 ∷ c8 ∷ c9 ∷ []) export actor top handling)) a own high false (suc depth)
    ≡ record { actor = own; export = export; top = high; handling = false; c1 = c1; c2 = c2; c3 = c3; c8 = c8; c9 = c9 }
    ∷ frames_in gs a actor top handling depth
unfolding frames_in
frame_written gs a actor top handling depth own export high c1 c2 c3 c8 c9 small low inside =
    let k : ℕ = frame_place a depth in
    let cs : List Cap = frame_words (c1 ∷ c2 ∷ c3 ∷ c8 ∷ c9 ∷ []) export actor top handling in
    let hs : List Granule = holding_all gs k cs in
    let room : k + 8 ≤ length gs = omega (arith, inside) in
    let e0 : cap_in hs k ≡ c1 = let here : k + 0 ≡ k = omega arith in rw here at (all_at gs k 0 cs (omega arith) room) in
    let e1 : cap_in hs (k + 1) ≡ c2 = all_at gs k 1 cs (omega arith) room in
    let e2 : cap_in hs (k + 2) ≡ c3 = all_at gs k 2 cs (omega arith) room in
    let e3 : cap_in hs (k + 3) ≡ c8 = all_at gs k 3 cs (omega arith) room in
    let e4 : cap_in hs (k + 4) ≡ c9 = all_at gs k 4 cs (omega arith) room in
    let e5 : cap_in hs (k + 5) ≡ plain (export + actor * 2 ^ 32) = all_at gs k 5 cs (omega arith) room in
    let e6 : cap_in hs (k + 6) ≡ plain top = all_at gs k 6 cs (omega arith) room in
    let e7 : cap_in hs (k + 7) ≡ plain (mark_word handling) = all_at gs k 7 cs (omega arith) room in
    let w1 : low_half (cap_in hs (k + 5)) ≡ export = ap low_half e5 ∙ halves_low export actor small in
    let w2 : high_half (cap_in hs (k + 5)) ≡ actor = ap high_half e5 ∙ halves_high export actor small in
    let w3 : low_half (cap_in hs (k + 6)) ≡ top = ap low_half e6 ∙ (let is : top % 2 ^ 32 ≡ top = omega (arith, low) in is) in
    let w4 : (low_half (cap_in hs (k + 7)) == 1) ≡ handling = ap (λ c. low_half c == 1) e7 ∙ mark_back handling in
    let rest : frames_from hs a actor top handling depth ≡ frames_from gs a actor top handling depth =
    from_same gs hs a actor top handling depth (λ m lo hi. ap (λ (g : Granule). g.cap) (all_other gs k m cs (inl hi))) in
    rw (e0, e1, e2, e3, e4, w1, w2, w3, w4, rest) refl
