-- The places of a description, by the elements of its lists.
use Rattle.std.proofs.Common.{◌≡◌, ℕ, ◌+◌, List, [], ◌∷◌, ◌++◌, refl, ap, sym, ◌∙◌}
use Rattle.std.specs.List.{flat_map}
use Rattle.std.proofs.lemmas.Grind.{flat_map-append}
use Rattle.std.specs.Prelude.{codes}
use Rattle.serde_json.specs.Data.{Data}
use Rattle.serde_json.specs.Find.{get}
use Rattle.def_desc.specs.declared.faults.PartWord.{PartWord}
use Rattle.def_desc.specs.declared.faults.PartWord.TheVariants.{Firmware}
use Rattle.def_desc.specs.Members.{list_at}
use Rattle.def_desc.specs.Tables.{Inner, outer_lists}
use Rattle.def_desc.specs.Walk.{Spot, each, each_from, inside, items_from, place, ram_spots, spot, spots_of}
use Rattle.ct_desc_value.specs.Seen.{outer_spots}

each_from_items : (d : Data) (part : PartWord) (n : ℕ) (xs : List Data) → each_from part d n xs ≡ flat_map outer_spots (items_from part d 0 n xs)
each_from_items d part n [] = refl
each_from_items d part n (x ∷ xs) = ap (λ rest. outer_spots (spot (place part 0 n) d x) ++ rest) (each_from_items d part (n + 1) xs)

each_of_lists : (d : Data) (lists : List Inner) → each d lists ≡ flat_map outer_spots (inside d 0 lists)
each_of_lists d [] = refl
each_of_lists d (l ∷ lists) =
    let first = items_from l.part d 0 0 (list_at l.key d) in
    ap (λ a. a ++ each d lists) (each_from_items d l.part 0 (list_at l.key d))
    ∙ ap (λ rest. flat_map outer_spots first ++ rest) (each_of_lists d lists)
    ∙ sym (flat_map-append outer_spots first (inside d 0 lists))

-- all places, where a walk begins: none of the lists of a compartment or library is walked
pub walk_begins : (d : Data) (firmware ram inner outer : List Spot)
    → firmware ≡ spot (place Firmware 0 0) d d ∷ [] → ram ≡ ram_spots d (get (codes "ram") d)
    → inner ≡ [] → outer ≡ inside d 0 outer_lists
    → firmware ++ (ram ++ (inner ++ flat_map outer_spots outer)) ≡ spots_of d
unfolding spots_of
walk_begins d firmware ram inner outer first second none all =
    rw (first, second, none, all)
    (ap (λ ss. spot (place Firmware 0 0) d d ∷ (ram_spots d (get (codes "ram") d) ++ ss)) (sym (each_of_lists d outer_lists)))
