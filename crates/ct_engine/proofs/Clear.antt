-- What a heap hides holds no capability: what keeps this so in a heap's calls.
use Rattle.std.proofs.Common.{ℕ, ◌≡◌, true, false, List, sym, ap, ◌∙◌}
use Rattle.std.proofs.lemmas.Bool.{false_from_ne_true}
use Rattle.def_words.specs.declared.Cap.{Cap}
use Rattle.def_memory.specs.declared.Granule.{Granule}
use Rattle.def_memory.specs.Ranges.{is_tagged}
use Rattle.def_chunks.specs.Changes.{NoTagComes}
use Rattle.def_chunks.specs.Heaps.{HeapRow}
use Rattle.def_chunks.specs.Hides.{heap_hides}
use Rattle.ct_engine.specs.Kept.{IsClear}

-- no capability comes
pub tag_clear : (gs hs : List Granule) (k : ℕ) → NoTagComes gs hs → is_tagged gs k ≡ false → is_tagged hs k ≡ false
tag_clear gs hs k tags was =
    false_from_ne_true (is_tagged hs k) (λ on. let clash : true ≡ false = sym on ∙ ap (λ (c : Cap). c.tag) (tags k on) ∙ was in cc)

-- and nothing more is hidden
pub clear_tags : (h n : HeapRow) (gs hs : List Granule) → IsClear h gs → NoTagComes gs hs → ((k : ℕ) → heap_hides n hs k ≡ true → heap_hides h gs k ≡ true) → IsClear n hs
clear_tags h n gs hs clear tags less k hid = tag_clear gs hs k tags (clear k (less k hid))
