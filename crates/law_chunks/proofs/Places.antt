-- Free chunks hold exactly the places that meet no used chunk.
use Rattle.std.proofs.Common.{ℕ, zero, suc, ◌≡◌, ◌+◌, ◌-◌, ◌*◌, ◌/◌, ◌%◌, ◌^◌, ◌<◌, ◌≤◌, ◌⊎◌, inl, inr, Bool, true, false, cond, nat_le, nat_eq, List, [], ◌∷◌, ◌++◌, refl, sym, ap, ◌∙◌, arith, subst}
use Rattle.law_lists.proofs.Tests.{bool_tells, le_tells}
use Rattle.def_memory.specs.declared.Granule.{Granule}
use Rattle.def_words.specs.LeastBounds.{alignment_of}
use Rattle.def_machine.specs.Image.{Image}
use Rattle.def_machine.specs.State.{Object}
use Rattle.def_machine.specs.Objects.{Each, ApartFrom}
use Rattle.def_machine.specs.Heap.{Fits, IsPlaceFor}
use Rattle.def_chunks.specs.declared.rows.Range.{Range}
use Rattle.def_chunks.specs.declared.rows.Gap.{Gap}
use Rattle.def_chunks.specs.Chunks.{Chunk, is_free, total_size, AreChunks, NoneTouch, BeginsUsed}
use Rattle.def_chunks.specs.Tiles.{chunks, TilesSettled}
use Rattle.def_chunks.specs.Gaps.{HasRoomAt, IsGap, NoGap}
use Rattle.def_chunks.specs.Heaps.{objects_in, object_at, quota_named, IsHeapOf, IsUnit}
use Rattle.law_chunks.proofs.Lays.{total_both}

abbrev pub Away : ℕ → ℕ → List Object → Type 0
Away base length objects = Each (λ q. ApartFrom (record { number = 0; quota = 0; base = base; length = length; charge = 0; live = true; painted = false }) q) objects

-- ---- what meets no used chunk lies in one free chunk

-- the used chunk after a free one is met
meets : (names : List ℕ) (low base length at : ℕ) (cs : List Chunk) → AreChunks cs → BeginsUsed cs → at < base + length → base < at + 8 → base + length ≤ at + total_size cs → Away base length (objects_in names low at cs) → ⊥
meets names low base length at [] are used over near high away = omega (arith, over, high)
meets names low base length at (d ∷ ds) are used over near high away =
    let both : Away base length (object_at (quota_named names (at - low)) at d ∷ objects_in names low (at + d.size) ds) = rw used at away in
    let wide = are.0.used used in
    elim both.0 [ inl a ↦ omega (arith, a, over) | inr b ↦ omega (arith, b, wide, near) ]

pub in_one : (names : List ℕ) (low base length at : ℕ) (cs : List Chunk) → AreChunks cs → NoneTouch cs → at + 8 ≤ base → base + length ≤ at + total_size cs → Away base length (objects_in names low at cs) → HasRoomAt base length at cs
in_one names low base length at [] are apart_ above high away = absurd (omega (arith, above, high))
in_one names low base length at (c ∷ cs) are apart_ above high away =
    let some = are.0.some in
    elim (bool_tells (is_free c)) [
      | inl free_ ↦ elim (le_tells (base + length) (at + c.size)) [
        | inl fits ↦ inl (free_, above, fits.1)
        | inr past ↦
            let over = past.1 in
            let rest : Away base length (objects_in names low (at + c.size) cs) = rw free_ at away in
            elim (le_tells (at + c.size + 8) base) [
              | inl far ↦ inr (in_one names low base length (at + c.size) cs are.1 apart_.1 far.1 (omega (arith, high)) rest)
              | inr near ↦ absurd (meets names low base length (at + c.size) cs are.1 (apart_.0 free_) over near.1 (omega (arith, high)) rest)
            ]
      ]
      | inr used ↦
          let both : Away base length (object_at (quota_named names (at - low)) at c ∷ objects_in names low (at + c.size) cs) = rw used at away in
          let wide = are.0.used used in
          let far : at + c.size + 8 ≤ base = elim both.0 [ inl a ↦ absurd (omega (arith, a, above)) | inr b ↦ omega (arith, b, wide) ] in
          inr (in_one names low base length (at + c.size) cs are.1 apart_.1 far (omega (arith, high)) both.1)
    ]

-- ---- and what lies in one meets no used chunk

past_away : (names : List ℕ) (low base length at : ℕ) (cs : List Chunk) → base + length ≤ at → Away base length (objects_in names low at cs)
past_away names low base length at [] past = tt
past_away names low base length at (c ∷ cs) past = elim (bool_tells (is_free c)) [
  | inl e ↦ rw e (past_away names low base length (at + c.size) cs (omega (arith, past)))
  | inr e ↦ rw e ((inl (omega (arith, past)), past_away names low base length (at + c.size) cs (omega (arith, past))))
]

pub room_low : (base length at : ℕ) (cs : List Chunk) → HasRoomAt base length at cs → at + 8 ≤ base
room_low base length at [] h = absurd h
room_low base length at (c ∷ cs) (inl h) = h.1
room_low base length at (c ∷ cs) (inr h) = let rest = room_low base length (at + c.size) cs h in omega (arith, rest)

pub room_high : (base length at : ℕ) (cs : List Chunk) → HasRoomAt base length at cs → base + length ≤ at + total_size cs
room_high base length at [] h = absurd h
room_high base length at (c ∷ cs) (inl h) = let here = h.2 in omega (arith, here)
room_high base length at (c ∷ cs) (inr h) = let rest = room_high base length (at + c.size) cs h in omega (arith, rest)

pub room_away : (names : List ℕ) (low base length at : ℕ) (cs : List Chunk) → AreChunks cs → HasRoomAt base length at cs → Away base length (objects_in names low at cs)
room_away names low base length at [] are h = absurd h
room_away names low base length at (c ∷ cs) are (inl h) = let here = h.2 in rw h.0 (past_away names low base length (at + c.size) cs here)
room_away names low base length at (c ∷ cs) are (inr h) =
    let above = room_low base length (at + c.size) cs h in
    let rest = room_away names low base length (at + c.size) cs are.1 h in
    elim (bool_tells (is_free c)) [
      | inl e ↦ rw e rest
      | inr e ↦ let wide = are.0.used e in rw e ((inr (omega (arith, above, wide)), rest))
    ]

-- ---- places among chunks that stand in a list

pub room_split : (base length at : ℕ) (xs ys : List Chunk) → HasRoomAt base length at (xs ++ ys) → HasRoomAt base length at xs ⊎ HasRoomAt base length (at + total_size xs) ys
room_split base length at [] ys h = let here : at + 0 ≡ at = omega arith in inr (rw here h)
room_split base length at (x ∷ xs) ys (inl h) = inl (inl h)
room_split base length at (x ∷ xs) ys (inr h) =
    let there : at + (x.size + total_size xs) ≡ at + x.size + total_size xs = omega arith in
    elim (room_split base length (at + x.size) xs ys h) [ inl k ↦ inl (inr k) | inr k ↦ inr (rw there k) ]

pub room_second : (base length at : ℕ) (xs ys : List Chunk) → HasRoomAt base length (at + total_size xs) ys → HasRoomAt base length at (xs ++ ys)
room_second base length at [] ys h = let here : at + 0 ≡ at = omega arith in rw here at h
room_second base length at (x ∷ xs) ys h =
    let there : at + (x.size + total_size xs) ≡ at + x.size + total_size xs = omega arith in
    inr (room_second base length (at + x.size) xs ys (rw there at h))

-- ---- the place of the machine's definition

held : (i : Image) (r : Range) (gs : List Granule) (names : List ℕ) (length b : ℕ) → IsHeapOf i r → TilesSettled r gs → Fits i (objects_in names r.base r.base (chunks r gs)) length b → HasRoomAt b length r.base (chunks r gs)
held i r gs names length b of h f =
    let low = f.low in
    let high = f.high in
    let base_is = of.base in
    let end_is = of.end in
    let size = h.tiled.size in
    in_one names r.base b length r.base (chunks r gs) h.tiled.are h.apart (omega (arith, low, base_is)) (omega (arith, high, end_is, size)) f.apart

pub gap_place : (i : Image) (r : Range) (gs : List Granule) (names : List ℕ) (unit length : ℕ) (g : Gap) → IsHeapOf i r → TilesSettled r gs → IsUnit unit (alignment_of length) → IsGap r gs unit length g → IsPlaceFor i (objects_in names r.base r.base (chunks r gs)) length g.base
gap_place i r gs names unit length g of h u gap =
    let s = gap.linked.free_stands.stands in
    let size_is = gap.linked.free_stands.size_is in
    let place = s.place in
    let low = gap.low in
    let high = gap.high in
    let both = total_both s.above (s.chunk ∷ s.below) in
    let sum = sym (ap total_size s.whole) ∙ h.tiled.size in
    let base_is = of.base in
    let end_is = of.end in
    let each = u.each g.base gap.aligned in
    let here : HasRoomAt g.base length (r.base + total_size s.above) (s.chunk ∷ s.below) = inl (gap.linked.free_stands.is, omega (arith, place, low), omega (arith, place, high, size_is)) in
    let holds : HasRoomAt g.base length r.base (chunks r gs) = subst (HasRoomAt g.base length r.base) (sym s.whole) (room_second g.base length r.base s.above (s.chunk ∷ s.below) here) in
    record {
      fits = record {
        eight = each.0;
        aligned = each.1;
        low = omega (arith, low, place, base_is);
        high = omega (arith, high, place, size_is, both, sum, end_is);
        apart = room_away names r.base g.base length r.base (chunks r gs) h.tiled.are holds;
      };
      least = λ b lt f. gap.least b lt (u.both b f.eight f.aligned) (held i r gs names length b of h f);
    }

pub no_gap_place : (i : Image) (r : Range) (gs : List Granule) (names : List ℕ) (unit length b : ℕ) → IsHeapOf i r → TilesSettled r gs → IsUnit unit (alignment_of length) → NoGap r gs unit length → Fits i (objects_in names r.base r.base (chunks r gs)) length b → ⊥
no_gap_place i r gs names unit length b of h u none f = none b (u.both b f.eight f.aligned) (held i r gs names length b of h f)
