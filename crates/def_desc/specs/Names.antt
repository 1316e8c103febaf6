-- F4 and F5: the form of names, and names that stand twice.
use Rattle.std.specs.Prelude.{ℕ, List, [], ◌∷◌, ◌++◌, Bool, true, false, Option, Some, None, decimal, if◌then◌else◌, codes}
use Rattle.serde_json.specs.Data.{Data}
use Rattle.def_texts.specs.Names.{is_name, among, with_name}
use Rattle.def_desc.specs.declared.faults.PartWord.{PartWord}
use Rattle.def_desc.specs.declared.faults.PartWord.TheVariants as part
use Rattle.def_desc.specs.declared.faults.Place.{Place}
use Rattle.def_desc.specs.Members.{text_or}
use Rattle.def_desc.specs.Limits.{number_or_zero}
use Rattle.def_desc.specs.Walk.{Spot}

-- the slot of a key of type n
abbrev pub key_name : ℕ → List ℕ
key_name n = codes "key" ++ decimal n

-- the name of what stands at a place; RAM has none
abbrev pub part_name : PartWord → Data → List ℕ
part_name part.Firmware d = text_or (codes "firmware") d
part_name part.Ram d = []
part_name part.Import d = text_or (codes "as") d
part_name part.Key d = key_name (number_or_zero d)
part_name part.Limport d = text_or (codes "as") d
part_name _ d = text_or (codes "name") d

abbrev pub spot_name : Spot → List ℕ
spot_name s = part_name s.place.part s.value

-- ---- F4: a name not of the form

-- a key's name is made from its number
abbrev pub has_own_name : PartWord → Bool
has_own_name part.Ram = false
has_own_name part.Key = false
has_own_name _ = true

abbrev pub is_well_named : Spot → Bool
is_well_named s = if has_own_name s.place.part then is_name (spot_name s) else true

-- ---- F5: a name twice in its space

-- the names of each space so far. Slots and exports are those of one compartment or library
pub record Spaces : Type 0 where
  pub devices : List (List ℕ)
  pub shared : List (List ℕ)
  pub sealed : List (List ℕ)
  pub owners : List (List ℕ)
  pub slots : List (List ℕ)
  pub exports : List (List ℕ)

abbrev pub no_names : Spaces
no_names = record { devices = []; shared = []; sealed = []; owners = []; slots = []; exports = [] }

-- the space of a part's names; the firmware's is in none
abbrev pub name_space : PartWord → Spaces → List (List ℕ)
name_space part.Firmware m = []
name_space part.Ram m = []
name_space part.Device m = m.devices
name_space part.Shared m = m.shared
name_space part.Sealed m = m.sealed
name_space part.Compartment m = m.owners
name_space part.Import m = m.slots
name_space part.Quota m = m.slots
name_space part.Key m = m.slots
name_space part.Export m = m.exports
name_space part.Library m = m.owners
name_space part.Limport m = m.slots
name_space part.Lexport m = m.exports
name_space part.Thread m = m.owners

-- with one more name. A compartment begins with slot 0, `switch`, a library with no slot
abbrev pub with_part_name : PartWord → List ℕ → Spaces → Spaces
with_part_name part.Firmware name m = m
with_part_name part.Ram name m = m
with_part_name part.Device name m = record m { devices = with_name m.devices name }
with_part_name part.Shared name m = record m { shared = with_name m.shared name }
with_part_name part.Sealed name m = record m { sealed = with_name m.sealed name }
with_part_name part.Compartment name m = record m { owners = with_name m.owners name; slots = codes "switch" ∷ []; exports = [] }
with_part_name part.Import name m = record m { slots = with_name m.slots name }
with_part_name part.Quota name m = record m { slots = with_name m.slots name }
with_part_name part.Key name m = record m { slots = with_name m.slots name }
with_part_name part.Export name m = record m { exports = with_name m.exports name }
with_part_name part.Library name m = record m { owners = with_name m.owners name; slots = []; exports = [] }
with_part_name part.Limport name m = record m { slots = with_name m.slots name }
with_part_name part.Lexport name m = record m { exports = with_name m.exports name }
with_part_name part.Thread name m = record m { owners = with_name m.owners name }

-- the first name that stands before itself in its space
abbrev pub first_twice : Spaces → List Spot → Option Place
first_twice seen [] = None
first_twice seen (s ∷ ss) =
    if among (spot_name s) (name_space s.place.part seen)
    then Some s.place
    else first_twice (with_part_name s.place.part (spot_name s) seen) ss
