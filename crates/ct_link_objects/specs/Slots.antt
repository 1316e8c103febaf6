-- Names of slots, taken one after another, each once.
use Rattle.std.specs.Prelude.{ℕ, List, [], ◌∷◌, ◌++◌, is_none, if◌then◌else◌}
use Rattle.def_object.specs.Object.{slot_of}

abbrev pub with_slot : List (List ℕ) → List ℕ → List (List ℕ)
with_slot names name = if is_none (slot_of names name) then names ++ name ∷ [] else names

abbrev pub with_slots : List (List ℕ) → List (List ℕ) → List (List ℕ)
with_slots names [] = names
with_slots names (n ∷ ns) = with_slots (with_slot names n) ns
