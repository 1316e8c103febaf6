-- What acceptance says of an image's regions, in plain facts.
use Rattle.std.specs.Prelude.{ℕ, ◌+◌, ◌≡◌, ◌%◌, ◌≤◌, ◌<◌, Some, slice_get, true}
use Rattle.def_profile.specs.declared.layout.TheConstants.{REGION_UNIT}
use Rattle.def_words.specs.LeastBounds.{rounded_of}
use Rattle.def_image.specs.Parts.{PartsRow}
use Rattle.def_image.specs.Regions.{RegionRow, regions_of}

abbrev pub IsIn : RegionRow → ℕ → Type 0
IsIn r x = (r.base ≤ x) × (x < r.base + r.length)

-- a region lies in RAM below the heap, at multiples of 16, with bounds that a word can spell
pub record IsLaid (p : PartsRow) (r : RegionRow) : Type 0 where
  pub low : p.ram ≤ r.base
  pub high : r.base + r.length ≤ p.heap
  pub even : r.base % REGION_UNIT ≡ 0
  pub whole : r.length % REGION_UNIT ≡ 0
  pub exact : (rounded_of r.base (r.base + r.length)).exact ≡ true

-- region i of the image
abbrev pub IsRegion : PartsRow → ℕ → RegionRow → Type 0
IsRegion p i r = slice_get (regions_of p) i ≡ Some r

-- each region is laid, and an address lies in one of them at most
pub record AreLaid (p : PartsRow) : Type 0 where
  pub each : (i : ℕ) (r : RegionRow) → IsRegion p i r → IsLaid p r
  pub one : (i j x : ℕ) (r q : RegionRow) → IsRegion p i r → IsRegion p j q → IsIn r x → IsIn q x
      → i ≡ j
