-- What contracts see of a place of a value, of the lists of an owner, and of the places to come.
use Rattle.std.specs.Prelude.{List, ◌∷◌, ◌++◌, ℕ, map, Bool, ◌&&◌, ◌||◌, bytes_eq, codes, option_map, option_to_list}
use Rattle.std.specs.List.{flat_map}
use Rattle.def_desc.specs.declared.faults.PartWord.{PartWord}
use Rattle.def_desc.specs.Kinds.{is_member}
use Rattle.def_desc.specs.Tables.{inner, inner_lists}
use Rattle.def_desc.specs.Walk.{Spot as SpotRow, spot, place, items_from, inside}
use Rattle.ct_json.specs.Values.{data_of, items_left}
use Rattle.ct_desc_value.specs.declared.walk.Spot.{Spot}
use Rattle.ct_desc_value.specs.declared.walk.Lists.{Lists}
use Rattle.ct_desc_value.specs.declared.walk.Spots.{Spots}

abbrev pub spot_view : Spot → SpotRow
spot_view s = spot s.place (data_of s.owner.value) (data_of s.value)

-- a name is listed, or is `rights` where they may stand
abbrev pub is_listed_beside : PartWord → Bool → List ℕ → Bool
is_listed_beside part rights name =
    is_member part name || (rights && bytes_eq name (codes "rights"))

-- the places that are still to come in lists of an owner: of the list that is walked, and of those after it
abbrev pub spots_in : Lists → List SpotRow
spots_in s =
    items_from s.part (data_of s.owner.value) s.index s.number (items_left s.items)
    ++ inside (data_of s.owner.value) s.index (map (λ r. inner r.0 r.1.now) s.lists.now)

-- the place of an element of the description's lists, which was found as an item, and those of its own lists
abbrev pub outer_spots : SpotRow → List SpotRow
outer_spots s =
    spot (place s.place.part s.place.item 0) s.owner s.value
    ∷ inside s.value s.place.item (inner_lists s.place.part)

-- the places that are still to come
unfoldable pub spots_left : Spots → List SpotRow
spots_left s =
    option_to_list (option_map spot_view s.firmware) ++ (option_to_list (option_map spot_view s.ram)
    ++ (spots_in s.inner ++ flat_map outer_spots (spots_in s.outer)))
