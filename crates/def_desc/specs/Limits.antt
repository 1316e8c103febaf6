-- F6: numbers, and lengths of lists, texts and bytes.
use Rattle.std.specs.Prelude.{ℕ, ◌+◌, ◌/◌, ◌%◌, List, length, count_by, Bool, true, not, ◌&&◌, ◌==◌, Option, Some, None, unwrap_or, nat_le, codes}
use Rattle.std.specs.List.{list_all}
use Rattle.std.specs.Int.{is_in_range}
use Rattle.serde_json.specs.Data.{Data}
use Rattle.serde_json.specs.Find.{get, as_array}
use Rattle.def_profile.specs.declared.layout.TheConstants.{REGION_UNIT}
use Rattle.def_profile.specs.declared.limits.TheConstants.{MOST_BYTES, MOST_FILE_NAME, RAM_END, SWEEP_RATE}
use Rattle.def_profile.specs.declared.seals.TheConstants.{FIRST_KEY_TYPE, LAST_KEY_TYPE}
use Rattle.def_profile.specs.Versions.{most_ram, most_threads, least_sweep, most_sweep}
use Rattle.def_image.specs.Profile.{last_version}
use Rattle.def_desc.specs.declared.faults.PartWord.{PartWord}
use Rattle.def_desc.specs.declared.faults.PartWord.TheVariants as part
use Rattle.def_desc.specs.declared.tables.Shape.{Shape}
use Rattle.def_desc.specs.declared.tables.Shape.TheVariants as shape
use Rattle.def_desc.specs.Members.{natural_of, number_or, text_value, text_at, list_at, list_in}
use Rattle.def_desc.specs.Tables.{Member, members_of}
use Rattle.def_desc.specs.Walk.{Spot}

-- ---- what stands at a member

abbrev pub number_or_zero : Data → ℕ
number_or_zero d = unwrap_or (natural_of d) 0

-- the characters of a text: the bytes of UTF-8 that don't go on with a character
abbrev pub characters : List ℕ → ℕ
characters text = count_by (λ b. not (is_in_range 128 191 b)) text

abbrev pub keeps_file : Option (List ℕ) → Bool
keeps_file None = true
keeps_file (Some name) = is_in_range 1 MOST_FILE_NAME (characters name)

-- a word has four bytes
abbrev pub keeps_code : Data → Bool
keeps_code d = nat_le (length (list_at (codes "words") d)) (MOST_BYTES / 4) && keeps_file (text_at (codes "file") d)

abbrev pub keeps : Shape → Data → Bool
keeps shape.Text d = true
keeps (shape.Among choice) d = true
keeps (shape.Number low high) d = is_in_range low high (number_or_zero d)
keeps (shape.Multiple low high) d =
    is_in_range low high (number_or_zero d) && number_or_zero d % REGION_UNIT == 0
keeps (shape.List most) d = nat_le (length (list_in (as_array d))) most
keeps shape.Object d = true
keeps (shape.Bytes least most) d = is_in_range least most (length (text_value d) / 2)
keeps shape.Offset d = true
keeps shape.Code d = keeps_code d

-- ---- F6: a limit isn't kept

-- a member that is missing has its default, which keeps the limits
abbrev pub keeps_there : Member → Option Data → Bool
keeps_there m None = true
keeps_there m (Some x) = keeps m.shape x

abbrev pub keeps_member : Data → Member → Bool
keeps_member d m = keeps_there m (get m.name d)

abbrev pub keeps_members : PartWord → Data → Bool
keeps_members part d = list_all (keeps_member d) (members_of part)

abbrev pub version_of : Data → ℕ
version_of d = number_or 1 (codes "version") d

-- the version is one that is taken, and what differs from version to version has that one's limits
abbrev pub keeps_version : ℕ → Data → Bool
keeps_version version d =
    nat_le version last_version
    && is_in_range (least_sweep version) (most_sweep version) (number_or SWEEP_RATE (codes "sweep") d)
    && nat_le (length (list_at (codes "threads") d)) (most_threads version)

abbrev pub keeps_ram : ℕ → Data → Bool
keeps_ram version d =
    nat_le (number_or 0 (codes "size") d) (most_ram version)
    && nat_le (number_or 0 (codes "base") d + number_or 0 (codes "size") d) RAM_END

-- what no table says of a part
abbrev pub keeps_more : PartWord → Spot → Bool
keeps_more part.Firmware s = keeps_version (version_of s.value) s.value
keeps_more part.Ram s = keeps_ram (version_of s.owner) s.value
keeps_more part.Key s = is_in_range FIRST_KEY_TYPE LAST_KEY_TYPE (number_or_zero s.value)
keeps_more _ s = true

abbrev pub keeps_limits : Spot → Bool
keeps_limits s = keeps_members s.place.part s.value && keeps_more s.place.part s
