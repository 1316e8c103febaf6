-- Objects stand at whole granules of the heap, and apart, each with two granules at least.
use Rattle.std.proofs.Common.{ℕ, ◌≡◌, ◌+◌, ◌-◌, ◌*◌, ◌%◌, ◌≤◌, inl, inr, List, [], ◌∷◌, length, arith}
use Rattle.law_lists.proofs.Tests.{bool_tells}
use Rattle.def_memory.specs.declared.Granule.{Granule}
use Rattle.def_machine.specs.State.{Object}
use Rattle.def_machine.specs.Objects.{Each}
use Rattle.def_chunks.specs.declared.rows.Range.{Range}
use Rattle.def_chunks.specs.Chunks.{Chunk, is_free, total_size, AreChunks}
use Rattle.def_chunks.specs.Tiles.{chunks}
use Rattle.def_chunks.specs.Heaps.{HeapRow, objects_in, objects_of, Laid}
use Rattle.def_chunks.specs.Kept.{StandsIn, InOrder}
use Rattle.law_chunks.proofs.Rows.{each_more, rows_low, rows_high}

rows_even : (names : List ℕ) (base at : ℕ) (cs : List Chunk) → at % 8 ≡ 0 → AreChunks cs → Each (λ q. q.base % 8 ≡ 0) (objects_in names base at cs)
rows_even names base at [] even are = tt
rows_even names base at (c ∷ cs) even are =
    let whole = are.0.whole in
    let rest = rows_even names base (at + c.size) cs (omega (arith, even, whole)) are.1 in
    elim (bool_tells (is_free c)) [ inl e ↦ rw e rest | inr e ↦ rw e ((omega (arith, even), rest)) ]

rows_ordered : (names : List ℕ) (base at : ℕ) (cs : List Chunk) → AreChunks cs → InOrder (objects_in names base at cs)
rows_ordered names base at [] are = tt
rows_ordered names base at (c ∷ cs) are =
    let some = are.0.some in
    let rest = rows_ordered names base (at + c.size) cs are.1 in
    let later = each_more (λ q. at + c.size + 8 ≤ q.base) (λ q. at + 8 + (c.size - 8) + 8 ≤ q.base) (objects_in names base (at + c.size) cs) (λ r low. omega (arith, low, some)) (rows_low names base (at + c.size) cs) in
    elim (bool_tells (is_free c)) [ inl e ↦ rw e rest | inr e ↦ rw e ((later, rest)) ]

each_three : (r : Range) (rs : List Object) → Each (λ q. q.base % 8 ≡ 0) rs → Each (λ q. r.base + 8 ≤ q.base) rs → Each (λ q. q.base + q.length ≤ r.base + r.length) rs → Each (λ q. StandsIn r q) rs
each_three r [] a b c = tt
each_three r (o ∷ os) a b c = (record { whole = a.0; low = b.0; high = c.0 }, each_three r os a.1 b.1 c.1)

pub objects_inside : (h : HeapRow) (gs : List Granule) → Laid h gs → Each (λ q. StandsIn h.range q) (objects_of h gs)
unfolding objects_of
objects_inside h gs l =
    let t = l.settled.tiled in
    let base_even = t.even.1 in
    let size = t.size in
    let base : ℕ = h.range.base in
    each_three h.range (objects_in h.names base base (chunks h.range gs))
    (rows_even h.names base base (chunks h.range gs) (omega (arith, base_even)) t.are)
    (rows_low h.names base base (chunks h.range gs))
    (each_more (λ q. q.base + q.length ≤ base + total_size (chunks h.range gs)) (λ q. q.base + q.length ≤ base + h.range.length) (objects_in h.names base base (chunks h.range gs)) (λ r high. omega (arith, high, size)) (rows_high h.names base base (chunks h.range gs) t.are))

pub objects_apart : (h : HeapRow) (gs : List Granule) → Laid h gs → InOrder (objects_of h gs)
unfolding objects_of
objects_apart h gs l = rows_ordered h.names h.range.base h.range.base (chunks h.range gs) l.settled.tiled.are

-- the chunk of each object has 16 bytes or more
rows_fit : (names : List ℕ) (base at : ℕ) (cs : List Chunk) → AreChunks cs → 16 * length (objects_in names base at cs) ≤ total_size cs
rows_fit names base at [] are = omega arith
rows_fit names base at (c ∷ cs) are =
    let rest = rows_fit names base (at + c.size) cs are.1 in
    elim (bool_tells (is_free c)) [
      | inl e ↦ rw e (omega (arith, rest))
      | inr e ↦ (let two = are.0.used e in rw e (omega (arith, two, rest)))
    ]

pub objects_few : (h : HeapRow) (gs : List Granule) → Laid h gs → 16 * length (objects_of h gs) ≤ h.range.length
unfolding objects_of
objects_few h gs l =
    let size = l.settled.tiled.size in
    let fit = rows_fit h.names h.range.base h.range.base (chunks h.range gs) l.settled.tiled.are in
    omega (arith, size, fit)
