-- What is placed, and where, as contracts see it.
use Rattle.std.specs.Prelude.{ℕ, ◌+◌, ◌%◌, ◌≡◌, ◌≤◌, ◌<◌, List, length}
use Rattle.def_profile.specs.declared.layout.TheConstants.{REGION_UNIT}
use Rattle.def_profile.specs.declared.limits.TheConstants.{RAM_END}
use Rattle.def_layout.specs.declared.Region.{Region}
use Rattle.def_layout.specs.Placement.{placed, needed, heap_in}
use Rattle.def_layout.specs.Lies.{AreSmall}
use Rattle.ct_layout.specs.declared.fault.LayoutFault.{LayoutFault}
use Rattle.ct_layout.specs.declared.fault.LayoutFault.TheVariants.{NoRoom, NoMemory}

pub record SizesRow : Type 0 where
  pub base : ℕ
  pub size : ℕ
  pub regions : List ℕ

pub record PlacesRow : Type 0 where
  pub regions : List Region
  pub heap : Region

pub record IsPlaceable (s : SizesRow) : Type 0 where
  pub base : s.base % REGION_UNIT ≡ 0
  pub size : s.size % REGION_UNIT ≡ 0
  pub end : s.base + s.size ≤ RAM_END
  pub few : length s.regions < 1024
  pub small : AreSmall s.regions

-- *Placement*
abbrev pub places_of : SizesRow → PlacesRow
places_of s = record { regions = placed s.base s.regions; heap = heap_in s.base s.size s.regions }

pub record HasRoom (s : SizesRow) (p : PlacesRow) : Type 0 where
  pub room : needed s.base s.regions ≤ s.size
  pub places : p ≡ places_of s

-- a refusal other than for want of memory, and its cause
abbrev pub RefusesRegions : SizesRow → LayoutFault → Type 0
RefusesRegions s (NoRoom n h) =
    (n ≡ needed s.base s.regions) × (h ≡ s.size) × (s.size < needed s.base s.regions)
RefusesRegions s NoMemory = Unit {0}
