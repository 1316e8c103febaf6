-- I6: the rights that an import of each kind may have, and the kinds that a library may have.
use Rattle.std.specs.Prelude.{ℕ, ◌+◌, ◌==◌, ◌&&◌, ◌||◌, Bool, true, false, not, List, [], ◌∷◌, ◌++◌}
use Rattle.std.specs.List.{list_any}
use Rattle.def_profile.specs.declared.rights.TheConstants.{GL, SD, LG, LM, LD, MC, SERVICE_RIGHTS, SEALED_RIGHTS, EXPORT_RIGHTS, CODE_RIGHTS, QUOTA_RIGHTS, KEY_RIGHTS}
use Rattle.def_words.specs.Permissions.{unpacked}
use Rattle.def_image.specs.declared.Check.{Check}
use Rattle.def_image.specs.declared.ImportRow.{ImportRow}
use Rattle.def_image.specs.declared.SlotKind.{SlotKind}
use Rattle.def_image.specs.declared.SlotKind.TheVariants.{Service, Device, Shared, Sealed, Call, Library, Quota, Key}
use Rattle.def_image.specs.declared.format.TheConstants.{ENTRY, COMPARTMENT_HEAD, LIBRARY_HEAD}
use Rattle.def_image.specs.Parts.{SlotRow, CodeRow, CompartmentRow, PartsRow}
use Rattle.def_image.specs.Spelling.{raw_of}
use Rattle.def_image.specs.Sizes.{compartments_at, libraries_at}
use Rattle.def_image.specs.Indexes.{part_size, code_size}
use Rattle.def_image.specs.Checks.{check, walked}

-- ---- rights by letters: R is LD, W is SD, and C is MC, with LM and LG where R is there

abbrev pub read_rights : ℕ
read_rights = GL + LD

abbrev pub write_rights : ℕ
write_rights = GL + SD

abbrev pub both_rights : ℕ
both_rights = GL + LD + SD

-- R, W, RW
abbrev pub device_right_sets : List ℕ
device_right_sets = read_rights ∷ write_rights ∷ both_rights ∷ []

-- RC, WC, RWC
abbrev pub carrying_rights : List ℕ
carrying_rights =
    (read_rights + MC + LM + LG) ∷ (write_rights + MC) ∷ (both_rights + MC + LM + LG) ∷ []

abbrev pub is_one_of : ℕ → List ℕ → Bool
is_one_of set sets = list_any (λ x. set == x) sets

abbrev pub fits_kind : SlotKind → ℕ → Bool
fits_kind Service set = set == SERVICE_RIGHTS
fits_kind Device set = is_one_of set device_right_sets
fits_kind Shared set = is_one_of set device_right_sets || is_one_of set carrying_rights
fits_kind Sealed set = set == SEALED_RIGHTS
fits_kind Call set = set == EXPORT_RIGHTS
fits_kind Library set = set == CODE_RIGHTS
fits_kind Quota set = set == QUOTA_RIGHTS
fits_kind Key set = set == KEY_RIGHTS

-- ---- what is asked

-- the set that a row's six bits spell
abbrev pub rights_of : ImportRow → ℕ
rights_of r = unpacked r.rights

abbrev pub is_library : SlotKind → Bool
is_library Library = true
is_library _ = false

abbrev pub right_asked : ℕ → List SlotRow → SlotRow → List Check
right_asked at earlier s = check at (not (fits_kind s.row.kind (rights_of s.row))) ∷ []

-- of a library's slot, also that it is of a library
abbrev pub library_right_asked : ℕ → List SlotRow → SlotRow → List Check
library_right_asked at earlier s =
    check at (not (fits_kind s.row.kind (rights_of s.row) && is_library s.row.kind)) ∷ []

abbrev pub compartment_rights : ℕ → List CompartmentRow → CompartmentRow → List Check
compartment_rights at earlier c =
    walked right_asked (λ s. ENTRY) (at + COMPARTMENT_HEAD) [] c.code.slots

abbrev pub library_rights : ℕ → List CodeRow → CodeRow → List Check
library_rights at earlier c = walked library_right_asked (λ s. ENTRY) (at + LIBRARY_HEAD) [] c.slots

unfoldable pub right_checks : PartsRow → List Check
right_checks p =
    walked compartment_rights part_size (compartments_at (raw_of p)) [] p.compartments
    ++ walked library_rights code_size (libraries_at (raw_of p)) [] p.libraries
