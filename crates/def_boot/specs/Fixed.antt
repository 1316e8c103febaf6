-- What stands in granules that never change: *Confined* says that they are as boot made them, and this that what
-- boot made is placed there as everywhere else.
use Rattle.std.specs.Prelude.{ℕ, ◌≡◌, true, Option, Some, None}
use Rattle.ct_entry.specs.Listed.{Listed}
use Rattle.ct_entry.specs.declared.rows.Owner.TheVariants.{Compartment, Library}
use Rattle.def_reach.specs.Sharing.{Reaches}
use Rattle.def_machine.specs.Image.{Fixed, region, address_of}
use Rattle.def_machine.specs.State.{State, granule}
use Rattle.def_confined.specs.Places.{Placed, NoStack}
use Rattle.def_image.specs.Parts.{PartsRow}
use Rattle.def_image.specs.Regions.{Holder, CodeOf, TableOf, RegionRow}
use Rattle.def_boot.specs.Boot.{image_of}
use Rattle.def_boot.specs.Contents.{region_at}

-- the compartments that are the domain of a region: of code and of an export table the owner, of a library's region each
-- compartment that the library reaches
abbrev pub HolderDomain : Listed → Holder → ℕ → Type 0
HolderDomain e (CodeOf (Compartment b)) d = d ≡ b
HolderDomain e (CodeOf (Library l)) d = Reaches e (Library l) d
HolderDomain e (TableOf b) d = d ≡ b
HolderDomain e _ d = ⊥

abbrev pub RegionDomain : Listed → Option RegionRow → ℕ → Type 0
RegionDomain e None d = ⊥
RegionDomain e (Some r) d = HolderDomain e r.holder d

-- the domain of the granule at an address
abbrev pub FixedDomain : PartsRow → ℕ → ℕ → Type 0
FixedDomain p x = RegionDomain (image_of p).entries (region_at p x)

-- the owner of the root of each tagged capability reaches each domain of the granule, and none is a stack's
abbrev pub FixedPlaced : PartsRow → State → Type 0
FixedPlaced p s =
    (k : ℕ) → region (image_of p) k ≡ Fixed → (granule s k).cap.tag ≡ true
    → Placed (image_of p) s.objects (FixedDomain p (address_of (image_of p) k)) NoStack
    (granule s k).cap
