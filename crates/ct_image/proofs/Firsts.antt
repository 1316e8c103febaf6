-- The first place at which a region, a device or RAM lies where it may not, question by question.
use Rattle.std.proofs.Common.{ℕ, ◌≡◌, Bool, true, false, not, List, [], ◌∷◌, ◌++◌, Option, Some, refl, ◌∙◌, cond}
use Rattle.def_image.specs.declared.Check.{Check}
use Rattle.def_image.specs.declared.format.TheConstants.{DEVICE}
use Rattle.def_image.specs.Parts.{PartsRow}
use Rattle.def_image.specs.Regions.{trusted_region, later_regions}
use Rattle.def_image.specs.Sizes.{header_size}
use Rattle.def_image.specs.Checks.{first, walked, check}
use Rattle.def_image.specs.Lying.{region_asked, device_asked, is_laid, is_heap_laid, overlaps_native, region_checks}
use Rattle.def_image.specs.First.{first_some}
use Rattle.law_image.proofs.Walks.{first_both}
use Rattle.ct_image_parts.specs.declared.sizes.Places.{Places}
use Rattle.ct_image_parts.specs.Places.{AreAt}

abbrev pub devices_walk : PartsRow → List Check
devices_walk p = walked (device_asked p) (λ d. DEVICE) (header_size p.version) [] p.devices

abbrev pub regions_walk : PartsRow → List Check
regions_walk p = walked (region_asked p) (λ r. 0) 0 [] (later_regions p)

by_three : (a b d : Bool) (cs : List Check) → first (check 36 a ∷ check 44 b ∷ check 48 d ∷ cs)
    ≡ cond a (Some 36) (cond b (Some 44) (cond d (Some 48) (first cs)))
unfolding first
by_three a b d cs = refl

asked : (p : PartsRow) → first (region_checks p)
    ≡ cond (overlaps_native p.ram p.size) (Some 36) (cond (not (is_laid p [] (trusted_region p))) (Some 44) (cond (not (is_heap_laid p)) (Some 48) (first (devices_walk p ++ regions_walk p))))
unfolding region_checks
asked p = by_three (overlaps_native p.ram p.size) (not (is_laid p [] (trusted_region p))) (not (is_heap_laid p)) (devices_walk p ++ regions_walk p)

chosen : (a b d x y z : Bool) (o : Option ℕ) → a ≡ x → b ≡ y → d ≡ z → cond a (Some 36) (cond (not b) (Some 44) (cond (not d) (Some 48) o)) ≡ cond x (Some 36) (cond (not y) (Some 44) (cond (not z) (Some 48) o))
chosen a b d x y z o e f g = rw (e, f, g) refl

pub over_native : (p : PartsRow) → overlaps_native p.ram p.size ≡ true → first (region_checks p) ≡ Some 36
over_native p e = asked p ∙ chosen _ (is_laid p [] (trusted_region p)) (is_heap_laid p) true _ _ (first (devices_walk p ++ regions_walk p)) e refl refl

pub trusted_astray : (p : PartsRow) → overlaps_native p.ram p.size ≡ false → is_laid p [] (trusted_region p) ≡ false → first (region_checks p) ≡ Some 44
trusted_astray p e f = asked p ∙ chosen _ _ (is_heap_laid p) false false _ (first (devices_walk p ++ regions_walk p)) e f refl

pub heap_astray : (p : PartsRow) → overlaps_native p.ram p.size ≡ false → is_laid p [] (trusted_region p) ≡ true → is_heap_laid p ≡ false → first (region_checks p) ≡ Some 48
heap_astray p e f g = asked p ∙ chosen _ _ _ false true false (first (devices_walk p ++ regions_walk p)) e f g

pub beyond : (p : PartsRow) → overlaps_native p.ram p.size ≡ false → is_laid p [] (trusted_region p) ≡ true → is_heap_laid p ≡ true
    → first (region_checks p) ≡ first_some (first (devices_walk p)) (first (regions_walk p))
beyond p e f g = asked p ∙ chosen _ _ _ false true true (first (devices_walk p ++ regions_walk p)) e f g ∙ first_both (devices_walk p) (regions_walk p)

pub devices_at : (p : PartsRow) (at : Places) → AreAt p at → first (devices_walk p) ≡ first (walked (device_asked p) (λ d. DEVICE) at.devices [] p.devices)
devices_at p at h = rw h.devices refl
