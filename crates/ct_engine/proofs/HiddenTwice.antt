-- What is hidden by one or by the other, as hidden by the one and then by the other.
use Rattle.std.proofs.Common.{ℕ, ◌≡◌, ◌+◌, ◌||◌, Bool, true, false, List, refl, sym, ap, ◌∙◌}
use Rattle.def_memory.specs.declared.Granule.{Granule}
use Rattle.def_memory.specs.Granules.{granule_at}
use Rattle.def_hidden.specs.Hiding.{hide, with_hidden}
use Rattle.law_hidden.proofs.Granules.{with_hidden_is, with_hidden_at, with_hidden_length}
use Rattle.def_chunks.specs.Heaps.{objects_of}
use Rattle.def_chunks.specs.Hides.{hides_heap, heap_hides}
use Rattle.ct_engine.specs.declared.rows.Rows.{Rows}
use Rattle.ct_engine.specs.Seen.{region_hides, engine_view}
use Rattle.ct_engine.specs.Kept.{IsEngine}

twice : (a b : Bool) (g : Granule) → hide a (hide b g) ≡ hide (a || b) g
twice true true g = refl
twice true false g = refl
twice false true g = refl
twice false false g = refl

pub with_hidden_both : (a b : ℕ → Bool) (gs : List Granule) → with_hidden (λ k. a k || b k) gs ≡ with_hidden a (with_hidden b gs)
with_hidden_both a b gs =
    sym (with_hidden_is (λ k. a k || b k) gs (with_hidden a (with_hidden b gs)) (with_hidden_length a (with_hidden b gs) ∙ with_hidden_length b gs)
    (λ k lt. with_hidden_at a (with_hidden b gs) k ∙ ap (λ g. hide (a k) g) (with_hidden_at b gs k) ∙ twice (a k) (b k) (granule_at gs k)))

-- what is seen of memory: what the region hides of it, and of what the heap hides
pub seen_both : (gs : List Granule) (rows : Rows) → IsEngine gs rows → (engine_view gs rows).state.granules ≡ with_hidden (region_hides rows.region) (with_hidden (heap_hides rows.heap gs) gs)
seen_both gs rows holds =
    with_hidden_both (region_hides rows.region) (λ k. hides_heap rows.region.ram rows.heap.range.base (rows.heap.range.base + rows.heap.range.length) (objects_of rows.heap gs) k) gs
    ∙ ap (λ ram. with_hidden (region_hides rows.region) (with_hidden (λ k. hides_heap ram rows.heap.range.base (rows.heap.range.base + rows.heap.range.length) (objects_of rows.heap gs) k) gs)) (sym holds.heap.ram)
