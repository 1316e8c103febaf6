-- The places of a description in the order in which they are judged, with what stands at each.
use Rattle.std.specs.Prelude.{ℕ, ◌+◌, List, [], ◌∷◌, ◌++◌, Option, Some, None, codes}
use Rattle.std.specs.List.{flat_map}
use Rattle.serde_json.specs.Data.{Data}
use Rattle.def_desc.specs.declared.faults.PartWord.{PartWord}
use Rattle.def_desc.specs.declared.faults.PartWord.TheVariants.{Firmware, Ram}
use Rattle.def_desc.specs.declared.faults.Place.{Place}
use Rattle.serde_json.specs.Find.{get}
use Rattle.def_desc.specs.Members.{list_at}
use Rattle.def_desc.specs.Tables.{Inner, outer_lists, inner_lists}

-- what stands at a place, and what holds its list: the description, or a compartment or library
pub record Spot : Type 0 where
  pub place : Place
  pub owner : Data
  pub value : Data

abbrev pub place : PartWord → ℕ → ℕ → Place
place part index item = record { part = part; index = index; item = item }

abbrev pub spot : Place → Data → Data → Spot
spot place owner value = record { place = place; owner = owner; value = value }

-- the elements of a list of a compartment or library, from item j on
abbrev pub items_from : PartWord → Data → ℕ → ℕ → List Data → List Spot
items_from part owner i j [] = []
items_from part owner i j (x ∷ xs) =
    spot (place part i j) owner x ∷ items_from part owner i (j + 1) xs

-- the elements of all its lists
abbrev pub inside : Data → ℕ → List Inner → List Spot
inside owner i lists = flat_map (λ l. items_from l.part owner i 0 (list_at l.key owner)) lists

-- the elements of a list of the description, from index i on, each with what stands inside it
abbrev pub each_from : PartWord → Data → ℕ → List Data → List Spot
each_from part d i [] = []
each_from part d i (x ∷ xs) =
    (spot (place part i 0) d x ∷ inside x i (inner_lists part)) ++ each_from part d (i + 1) xs

abbrev pub each : Data → List Inner → List Spot
each d lists = flat_map (λ l. each_from l.part d 0 (list_at l.key d)) lists

abbrev pub ram_spots : Data → Option Data → List Spot
ram_spots d None = []
ram_spots d (Some x) = spot (place Ram 0 0) d x ∷ []

unfoldable pub spots_of : Data → List Spot
spots_of d = spot (place Firmware 0 0) d d ∷ ram_spots d (get (codes "ram") d) ++ each d outer_lists
