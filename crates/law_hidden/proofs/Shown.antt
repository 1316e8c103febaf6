-- A heap and what it hides: what stays hidden leaves its objects.
use Rattle.std.proofs.Common.{ℕ, ◌≡◌, ◌+◌, ◌-◌, ◌*◌, ◌/◌, ◌%◌, ◌<◌, ◌≤◌, inl, inr, ◌&&◌, Bool, true, false, not, nat_le, nat_lt, List, length, refl, sym, ap, ◌∙◌, arith}
use Rattle.law_lists.proofs.Tests.{le_tells, lt_tells}
use Rattle.def_words.specs.declared.Cap.{Cap}
use Rattle.def_memory.specs.declared.Granule.{Granule}
use Rattle.def_memory.specs.Granules.{granule_at}
use Rattle.def_chunks.specs.Chunks.{Starts}
use Rattle.def_chunks.specs.Tiles.{chunks}
use Rattle.def_chunks.specs.Heaps.{HeapRow, objects_of, Laid}
use Rattle.def_chunks.specs.Kept.{KeepsHeap}
use Rattle.law_chunks.proofs.Kept.{head_there, heads_kept, head_not_live}
use Rattle.def_chunks.specs.Hides.{hides_heap, heap_hides}

-- a head is hidden
pub head_hidden : (h : HeapRow) (gs : List Granule) (p : ℕ) → Laid h gs → Starts p h.range.base (chunks h.range gs) → heap_hides h gs ((p - h.range.ram) / 8) ≡ true
head_hidden h gs p l s =
    let k = head_there h.range gs p l.settled.tiled s in
    let low_ = k.low in
    let over = k.over in
    let even = k.even in
    let fits = k.fits in
    let place : h.range.ram + 8 * ((p - h.range.ram) / 8) ≡ p = omega (arith, over, even) in
    let low : nat_le h.range.base p ≡ true = elim (le_tells h.range.base p) [ inl a ↦ a.0 | inr a ↦ absurd (let gt = a.1 in omega (arith, gt, low_)) ] in
    let high : nat_lt p (h.range.base + h.range.length) ≡ true = elim (lt_tells p (h.range.base + h.range.length)) [ inl a ↦ a.0 | inr a ↦ absurd (let ge = a.1 in omega (arith, ge, fits)) ] in
    let live = head_not_live h gs p l s in
    rw place (rw (low, high, live) refl)

-- where what is hidden holds what it held, the heap stands for the same objects
pub hidden_keeps : (h : HeapRow) (gs hs : List Granule) → Laid h gs → length hs ≡ length gs
    → ((k : ℕ) → heap_hides h gs k ≡ true → (granule_at hs k).cap ≡ (granule_at gs k).cap) → KeepsHeap h gs hs
hidden_keeps h gs hs l size same =
    heads_kept h gs hs l size (λ p s. same ((p - h.range.ram) / 8) (head_hidden h gs p l s))

-- and hides the same
pub hides_same : (h : HeapRow) (gs hs : List Granule) (k : ℕ) → objects_of h hs ≡ objects_of h gs → heap_hides h hs k ≡ heap_hides h gs k
hides_same h gs hs k e = ap (λ rs. hides_heap h.range.ram h.range.base (h.range.base + h.range.length) rs k) e
