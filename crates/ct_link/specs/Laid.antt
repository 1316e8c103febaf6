-- What a description and the objects of its code are linked to.
use Rattle.std.specs.Prelude.{ℕ, ◌≡◌, ◌≤◌, List, Result, length}
use Rattle.std.specs.List.{AllByRecursion}
use Rattle.def_layout.specs.declared.Region.{Region}
use Rattle.def_layout.specs.Placement.{placed, last_end, needed}
use Rattle.def_image.specs.Parts.{PartsRow}
use Rattle.def_desc.specs.Lawful.{IsLawful}
use Rattle.def_desc.specs.Rows.{DescRow}
use Rattle.def_link.specs.declared.LinkFault.{LinkFault}
use Rattle.def_link.specs.Linked.{sizes_of, parts_of, built_parts, linked}
use Rattle.ct_layout.specs.Rows.{PlacesRow}
use Rattle.ct_asm.specs.Labels.{Assembled}
use Rattle.ct_link.specs.Rows.{IsSized, own_built, lent_built}

abbrev pub sizes_with : DescRow → List Assembled → List Assembled → List ℕ
sizes_with d own lent = sizes_of d (own_built d.compartments own) (lent_built d.libraries lent)

-- the objects of compartments, and those of libraries
abbrev pub laid_of : DescRow → List Assembled → List Assembled → Result PartsRow LinkFault
laid_of d own lent = built_parts d (own_built d.compartments own) (lent_built d.libraries lent)

abbrev pub parts_with : DescRow → List Assembled → List Assembled → List Region → ℕ → PartsRow
parts_with d own lent regions heap =
    parts_of d (own_built d.compartments own) (lent_built d.libraries lent) regions heap

-- all regions have room in RAM, and lie where placement puts them
pub record IsPlaced (d : DescRow) (own lent : List Assembled) (p : PlacesRow) : Type 0 where
  pub room : needed d.ram.base (sizes_with d own lent) ≤ d.ram.size
  pub regions : p.regions ≡ placed d.ram.base (sizes_with d own lent)
  pub heap : p.heap.base ≡ last_end d.ram.base (sizes_with d own lent)

-- a lawful description with one object for each owner
pub record AreObjects (d : DescRow) (own lent : List Assembled) : Type 0 where
  pub lawful : IsLawful d
  pub own_each : length own ≡ length d.compartments
  pub lent_each : length lent ≡ length d.libraries
  pub own_sized : AllByRecursion IsSized own
  pub lent_sized : AllByRecursion IsSized lent

-- those of some sources, with which the description is linked to what these are laid to
pub record AreReady (d : DescRow) (own lent : List Assembled) : Type 0 where
  pub objects : AreObjects d own lent
  pub sources : List (List ℕ)
  pub linked : linked d sources ≡ laid_of d own lent
