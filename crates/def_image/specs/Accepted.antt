-- *Image*: which bytes are an accepted image, of which parts, and what is wrong with others: the least number, at its
-- first place.
use Rattle.std.specs.Prelude.{ℕ, ◌≡◌, ◌⊎◌, ◌&&◌, Bool, true, false, List, length, take, drop, Some, None, nat_le, bytes_eq}
use Rattle.std.specs.Int.{w32, from_le_bytes, is_in_range}
use Rattle.def_image.specs.Raw.{RawImage}
use Rattle.def_image.specs.Parts.{PartsRow}
use Rattle.def_image.specs.Profile.{last_version}
use Rattle.def_image.specs.Spelling.{magic, spelled, raw_of, image_bytes}
use Rattle.def_image.specs.Shapes.{IsShaped, IsSpellable}
use Rattle.def_image.specs.Checks.{first}
use Rattle.def_image.specs.Limits.{limit_checks}
use Rattle.def_image.specs.Lying.{region_checks}
use Rattle.def_image.specs.Indexes.{index_checks}
use Rattle.def_image.specs.Rights.{right_checks}

-- the bytes begin with the magic and a version that is known
abbrev pub is_begun : List ℕ → Bool
is_begun bytes =
    nat_le 8 (length bytes)
    && bytes_eq (take 4 bytes) magic
    && is_in_range 1 last_version (from_le_bytes w32 (take 4 (drop 4 bytes)))

-- these fields spell the bytes
abbrev pub Spells : RawImage → List ℕ → Type 0
Spells r bytes = IsShaped r × (bytes ≡ spelled r)

-- nothing is wrong with the parts
pub record IsFaultless (p : PartsRow) : Type 0 where
  pub spellable : IsSpellable p
  pub version : is_in_range 1 last_version p.version ≡ true
  pub limits : first (limit_checks (raw_of p)) ≡ None
  pub regions : first (region_checks p) ≡ None
  pub indexes : first (index_checks p) ≡ None
  pub rights : first (right_checks p) ≡ None

-- the bytes are the image of these parts
abbrev pub IsImage : List ℕ → PartsRow → Type 0
IsImage bytes p = IsFaultless p × (bytes ≡ image_bytes p)

-- ---- faults, by number and place

-- no fields spell the bytes
abbrev pub IsCut : List ℕ → ℕ → Type 0
IsCut bytes place = (place ≡ length bytes) × ((r : RawImage) → Spells r bytes → ⊥)

-- a limit or form fails first at this place
abbrev pub BreaksLimit : List ℕ → ℕ → Type 0
BreaksLimit bytes place = (r : RawImage) × Spells r bytes × (first (limit_checks r) ≡ Some place)

-- the bytes are the fields of these parts, and their limits and forms hold
abbrev pub SpellsParts : List ℕ → PartsRow → Type 0
SpellsParts bytes p =
    IsSpellable p × (bytes ≡ image_bytes p)
    × (first (limit_checks (raw_of p)) ≡ None)

abbrev pub BreaksRegion : List ℕ → ℕ → Type 0
BreaksRegion bytes place =
    (p : PartsRow) × SpellsParts bytes p
    × (first (region_checks p) ≡ Some place)

abbrev pub BreaksIndex : List ℕ → ℕ → Type 0
BreaksIndex bytes place =
    (p : PartsRow) × SpellsParts bytes p
    × (first (region_checks p) ≡ None)
    × (first (index_checks p) ≡ Some place)

abbrev pub BreaksRight : List ℕ → ℕ → Type 0
BreaksRight bytes place =
    (p : PartsRow) × SpellsParts bytes p
    × (first (region_checks p) ≡ None)
    × (first (index_checks p) ≡ None)
    × (first (right_checks p) ≡ Some place)

abbrev pub FaultAt : List ℕ → ℕ → ℕ → Type 0
FaultAt bytes number place =
    ((number ≡ 1) × (is_begun bytes ≡ false) × (place ≡ 0))
    ⊎ ((is_begun bytes ≡ true)
    × (((number ≡ 2) × IsCut bytes place)
    ⊎ ((number ≡ 3) × BreaksLimit bytes place)
    ⊎ ((number ≡ 4) × BreaksRegion bytes place)
    ⊎ ((number ≡ 5) × BreaksIndex bytes place)
    ⊎ ((number ≡ 6) × BreaksRight bytes place)))
