-- The description has no number with a point, and nests five deep: so its text is its compact text, and reads back.
use Rattle.std.proofs.Common.{◌≡◌, ℕ, zero, suc, ◌+◌, ◌≤◌, List, Bool, true, false, map, max, refl, arith, lit≤}
use Rattle.std.specs.List.{range_with_len}
use Rattle.std.proofs.lemmas.Bool.{or_from}
use Rattle.serde_json.specs.Data.{Data, depth, items_depth}
use Rattle.serde_json.specs.Read.{max_depth}
use Rattle.serde_json.specs.View.{items_of}
use Rattle.serde_json.specs.Written.{has_float, items_have_float}
use Rattle.def_gen.specs.Numbers.{count_of, chosen, globals_of, passes_data, is_last}
use Rattle.def_gen.specs.Description.{compartment_with, compartment_object, compartments, firmware_over, array_data, firmware}

own_plain : (last passes : Bool) (globals i : ℕ) → has_float (compartment_with last passes globals i) ≡ false
own_plain true true globals i = refl
own_plain true false globals i = refl
own_plain false true globals i = refl
own_plain false false globals i = refl

own_depth : (last passes : Bool) (globals i : ℕ) → depth (compartment_with last passes globals i) ≡ 3
own_depth true true globals i = refl
own_depth true false globals i = refl
own_depth false true globals i = refl
own_depth false false globals i = refl

all_plain : (seed a m : ℕ) → items_have_float (items_of (map (compartment_object seed) (range_with_len a m))) ≡ false
all_plain seed a zero = refl
all_plain seed a (suc m) =
    or_from (has_float (compartment_object seed a)) (items_have_float (items_of (map (compartment_object seed) (range_with_len (a + 1) m))))
    (own_plain (is_last (count_of seed) a) (passes_data (chosen seed a)) (globals_of (chosen seed a)) a) (all_plain seed (a + 1) m)

all_depth : (seed a m : ℕ) → items_depth (items_of (map (compartment_object seed) (range_with_len a m))) ≤ 3
all_depth seed a zero = lit≤ tt
all_depth seed a (suc m) =
    let here : depth (compartment_object seed a) ≡ 3 = own_depth (is_last (count_of seed) a) (passes_data (chosen seed a)) (globals_of (chosen seed a)) a in
    let rest : items_depth (items_of (map (compartment_object seed) (range_with_len (a + 1) m))) ≤ 3 = all_depth seed (a + 1) m in
    few (depth (compartment_object seed a)) (items_depth (items_of (map (compartment_object seed) (range_with_len (a + 1) m)))) here rest
  where
    few : (d e : ℕ) → d ≡ 3 → e ≤ 3 → max d e ≤ 3
    few d e h k = omega arith

pub firmware_plain : (seed : ℕ) → has_float (firmware seed) ≡ false
unfolding firmware compartments
firmware_plain seed = rw (all_plain seed 0 (count_of seed)) refl

over_depth : (count : ℕ) (owners : List Data) → items_depth (items_of owners) ≤ 3 → depth (firmware_over count (array_data owners)) ≤ max_depth
over_depth count owners h = omega arith

pub firmware_depth : (seed : ℕ) → depth (firmware seed) ≤ max_depth
unfolding firmware compartments
firmware_depth seed = over_depth (count_of seed) (map (compartment_object seed) (range_with_len 0 (count_of seed))) (all_depth seed 0 (count_of seed))
