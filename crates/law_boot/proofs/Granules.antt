-- What part of the image each granule is.
use Rattle.std.proofs.Common.{ℕ, zero, suc, ◌≡◌, ◌+◌, ◌-◌, ◌*◌, ◌<◌, ◌≤◌, slice_index_or, refl, ap, ◌∙◌, arith}
use Rattle.def_profile.specs.declared.layout.TheConstants.{GRANULE}
use Rattle.def_machine.specs.Image.{Bare, address_of, granule_of}
use Rattle.def_machine.specs.Image as image
use Rattle.def_image.specs.Parts.{PartsRow}
use Rattle.def_image.specs.Regions.{RegionRow}
use Rattle.def_image.specs.Laid.{IsIn, IsRegion}
use Rattle.def_image.specs.Sound.{Sound}
use Rattle.def_boot.specs.Contents.{part, part_at, region_part, parts_from, granules_in}
use Rattle.def_boot.specs.Boot.{image_of}
use Rattle.law_boot.proofs.Found.{found}

parts_there : (p : PartsRow) (x n k : ℕ) → k < n → slice_index_or (parts_from p x n) k Bare ≡ part p (x + 8 * k)
parts_there p x zero k lt = absurd (omega (arith, lt))
parts_there p x (suc n) zero lt = ap (λ y. part p y) (let same : x ≡ x + 8 * 0 = omega arith in same)
parts_there p x (suc n) (suc k) lt = parts_there p (x + GRANULE) n k (omega (arith, lt)) ∙ ap (λ y. part p y) (let same : x + GRANULE + 8 * k ≡ x + 8 * suc k = omega arith in same)

parts_past : (p : PartsRow) (x n k : ℕ) → n ≤ k → slice_index_or (parts_from p x n) k Bare ≡ Bare
parts_past p x zero k past = refl
parts_past p x (suc n) zero past = absurd (omega (arith, past))
parts_past p x (suc n) (suc k) past = parts_past p (x + GRANULE) n k (omega (arith, past))

pub in_ram : (p : PartsRow) (k : ℕ) → k < granules_in p → image.region (image_of p) k ≡ part p (address_of (image_of p) k)
unfolding image_of
in_ram p k lt = parts_there p p.ram (granules_in p) k lt

pub past_ram : (p : PartsRow) (k : ℕ) → granules_in p ≤ k → image.region (image_of p) k ≡ Bare
unfolding image_of
past_ram p k past = parts_past p p.ram (granules_in p) k past

module _ (p : PartsRow) (s : Sound p) where
  -- a granule whose address lies in a region
  pub at_region : (k i : ℕ) (r : RegionRow) → IsRegion p i r → IsIn r (address_of (image_of p) k) → image.region (image_of p) k ≡ region_part r.holder (address_of (image_of p) k - r.base)
  unfolding image_of part
  at_region k i r is lies =
      let laid = s.laid.each i r is in
      let high = laid.high in
      let inside = s.heap.inside in
      let size = s.ram.size in
      let lt = lies.1 in
      in_ram p k (omega (arith, lt, high, inside, size))
      ∙ ap (λ o. part_at p o (address_of (image_of p) k)) (found p s i (address_of (image_of p) k) r is lies)

  -- the granule of an address of a region lies in it too
  pub whole : (x i : ℕ) (r : RegionRow) → IsRegion p i r → IsIn r x → IsIn r (address_of (image_of p) (granule_of (image_of p) x))
  unfolding image_of
  whole x i r is lies =
      let laid = s.laid.each i r is in
      let even = laid.even in
      let unit = s.ram.base in
      let above = laid.low in
      let low = lies.0 in
      let high = lies.1 in
      (omega (arith, even, unit, above, low), omega (arith, even, unit, above, low, high))

  pub of_address : (x i : ℕ) (r : RegionRow) → IsRegion p i r → IsIn r x → (k : ℕ) × (image.region (image_of p) (granule_of (image_of p) x) ≡ region_part r.holder k)
  of_address x i r is lies = (address_of (image_of p) (granule_of (image_of p) x) - r.base, at_region (granule_of (image_of p) x) i r is (whole x i r is lies))

  -- past RAM nothing is kept
  pub past_address : (x : ℕ) → p.ram + p.size ≤ x → image.region (image_of p) (granule_of (image_of p) x) ≡ Bare
  unfolding image_of
  past_address x past = let size = s.ram.size in past_ram p (granule_of (image_of p) x) (omega (arith, past, size))
