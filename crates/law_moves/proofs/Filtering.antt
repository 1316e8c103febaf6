-- Marks stand in the heap alone, so the load filter needn't look elsewhere.
use Rattle.std.proofs.Common.{ℕ, ◌≡◌, ◌+◌, ◌-◌, ◌*◌, ◌/◌, ◌≤◌, ◌<◌, ◌&&◌, Bool, true, false, cond, nat_le, nat_lt, refl, ap, sym, ◌∙◌, arith}
use Rattle.std.proofs.lemmas.Bool.{and_parts, and_right, leb-true, le-leb, lt-ltb}
use Rattle.def_words.specs.declared.Cap.{Cap}
use Rattle.def_words.specs.Authority.{cap_base}
use Rattle.def_words.specs.Capability.{untagged}
use Rattle.def_machine.specs.Image.{Image, granule_of}
use Rattle.def_machine.specs.State.{State, granule}
use Rattle.def_machine.specs.Memory.{filtered, is_marked}
use Rattle.def_confined.specs.Confined.{Confined, MarksAt, ObjectFits}
use Rattle.def_confined.specs.Partitioned.{Partitioned}
use Rattle.law_moves.proofs.Rows.{each_take}
use Rattle.def_confined.specs.Filters.{heap_filtered}

same_test : (t a b m : Bool) → (m ≡ true → (a ≡ true) × (b ≡ true)) → (t && m) ≡ (t && a && b && m)
same_test true a b true h = rw ((h refl).0, (h refl).1) refl
same_test false a b true h = refl
same_test t a b false h = and_right t false refl ∙ sym (and_right (t && a && b) false refl)

marked_inside : (i : Image) (s : State) (x : ℕ) → Partitioned i → Confined i s → is_marked i s x ≡ true → (i.heap_base ≤ x) × (x < i.heap_end)
marked_inside i s x p h marked =
    let parts = and_parts (nat_le i.ram x) (granule s (granule_of i x)).mark marked in
    let low = leb-true i.ram x parts.0 in
    each_take (ObjectFits i s.next) (MarksAt (i.ram + 8 * ((x - i.ram) / 8))) ((i.heap_base ≤ x) × (x < i.heap_end)) s.objects
    (λ r fits at. (omega (arith, low, fits.low, at.1), omega (arith, low, fits.high, at.1, p.even)))
    h.fits ((h.marks (granule_of i x)).why parts.1)

-- in a confined state the load filter looks at the heap alone: no granule elsewhere is marked
pub filter_is_heaps : (i : Image) (s : State) (c : Cap) → Partitioned i → Confined i s → filtered i s c ≡ heap_filtered i s c
filter_is_heaps i s c p h =
    ap (λ (b : Bool). cond b (untagged c) c)
    (same_test c.tag (nat_le i.heap_base (cap_base c)) (nat_lt (cap_base c) i.heap_end) (is_marked i s (cap_base c))
    (λ marked. let inside = marked_inside i s (cap_base c) p h marked in (le-leb i.heap_base (cap_base c) inside.0, lt-ltb (cap_base c) i.heap_end inside.1)))
