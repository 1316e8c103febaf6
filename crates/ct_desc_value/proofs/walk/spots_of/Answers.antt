use Rattle.std.proofs.Common.{◌≡◌, List, ◌∷◌, [], ◌∙◌, ap}
use Rattle.std.specs.Prelude.{codes, option_map, option_to_list}
use Rattle.serde_json.specs.Data.{Data}
use Rattle.serde_json.specs.Find.{get}
use Rattle.def_desc.specs.declared.faults.PartWord.TheVariants.{Firmware}
use Rattle.def_desc.specs.Tables.{outer_lists}
use Rattle.def_desc.specs.Walk.{Spot, inside, place, ram_spots, spot}
use Rattle.ct_json.specs.Values.{data_of}
use Rattle.ct_desc_value.specs.Seen.{spot_view, spots_in, spots_left}
use Rattle.ct_desc_value.proofs.Walks.{walk_begins}
use Rattle.ct_desc_value.proofs.walk.spots_of.Goals as goal

first_place : Data → List Spot
first_place d = spot (place Firmware 0 0) d d ∷ []

rams : Data → List Spot
rams d = ram_spots d (get (codes "ram") d)

pub returns : goal.returns
unfolding spots_left outer_lists first_place rams
returns c =
    let d = data_of c.args.value.now in
    let value : data_of c.of-owner.result.value ≡ data_of c.args.value.now = ap data_of c.of-owner.ensures in
    let first : spot_view c.first_spot.result ∷ [] ≡ first_place d = ap (λ s. s ∷ []) c.first_spot.ensures ∙ ap first_place value in
    let ram : option_to_list (option_map spot_view c.ram_spot.result) ≡ rams d = c.ram_spot.ensures ∙ ap rams value in
    let outer : spots_in c.of-outer.result ≡ inside d 0 outer_lists = c.of-outer.ensures ∙ ap (λ x. inside x 0 outer_lists) value in
    walk_begins d _ _ _ _ first ram c.of-inner.ensures outer
