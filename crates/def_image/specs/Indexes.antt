-- I5: what imports and threads name is there, and slots stand in their order.
use Rattle.std.specs.Prelude.{ℕ, ◌+◌, ◌==◌, ◌&&◌, ◌||◌, Bool, true, false, not, nat_lt, List, [], ◌∷◌, ◌++◌, length, map, Option, Some, None, slice_get, if◌then◌else◌}
use Rattle.std.specs.List.{list_any}
use Rattle.def_native.specs.declared.TheConstants.{SWITCH}
use Rattle.def_profile.specs.declared.native.TheConstants.{RETURN}
use Rattle.def_image.specs.declared.Check.{Check}
use Rattle.def_image.specs.declared.ImportRow.{ImportRow}
use Rattle.def_image.specs.declared.SlotKind.{SlotKind}
use Rattle.def_image.specs.declared.SlotKind.TheVariants.{Service, Device, Shared, Sealed, Call, Library, Quota, Key}
use Rattle.def_image.specs.declared.format.TheConstants.{ENTRY, COMPARTMENT_HEAD, LIBRARY_HEAD, THREAD}
use Rattle.def_image.specs.Parts.{SlotRow, CodeRow, CompartmentRow, ThreadRow, PartsRow}
use Rattle.def_image.specs.Spelling.{raw_of, raw_code, raw_compartment}
use Rattle.def_image.specs.Sizes.{compartment_size, library_size, compartments_at, libraries_at, threads_at}
use Rattle.def_image.specs.Checks.{check, walked}

-- ---- what is named

abbrev pub exports_of : Option CodeRow → ℕ
exports_of None = 0
exports_of (Some c) = length c.exports

abbrev pub code_in : List CompartmentRow → ℕ → Option CodeRow
code_in cs b = slice_get (map (λ (c : CompartmentRow). c.code) cs) b

abbrev pub is_slot_named : PartsRow → ImportRow → SlotKind → Bool
is_slot_named p r Service = true
is_slot_named p r Device = nat_lt r.first (length p.devices)
is_slot_named p r Shared = nat_lt r.first (length p.shared)
is_slot_named p r Sealed = nat_lt r.first (length p.sealed)
is_slot_named p r Call = nat_lt r.second (exports_of (code_in p.compartments r.first))
is_slot_named p r Library = nat_lt r.second (exports_of (slice_get p.libraries r.first))
is_slot_named p r Quota = true
is_slot_named p r Key = true

-- ---- the order of slots

-- imports stand before quotas, and these before keys
abbrev pub slot_class : SlotKind → ℕ
slot_class Quota = 1
slot_class Key = 2
slot_class _ = 0

abbrev pub comes_before : ImportRow → SlotRow → Bool
comes_before r s = nat_lt (slot_class r.kind) (slot_class s.row.kind)

abbrev pub is_service : SlotKind → Bool
is_service Service = true
is_service _ = false

abbrev pub is_switch : ImportRow → Bool
is_switch r = is_service r.kind && r.first == SWITCH

-- the switch and the return have no slots of their own
abbrev pub is_reserved : ImportRow → Bool
is_reserved r = is_service r.kind && (r.first == SWITCH || r.first == RETURN)

abbrev pub is_import_astray : PartsRow → List SlotRow → ImportRow → Bool
is_import_astray p earlier r =
    not (is_slot_named p r r.kind) || is_reserved r || list_any (comes_before r) earlier

-- ---- what is asked

abbrev pub slot_asked : PartsRow → ℕ → List SlotRow → SlotRow → List Check
slot_asked p at earlier s = check at (is_import_astray p earlier s.row) ∷ []

-- the first slot of a compartment is the switch
abbrev pub is_own_astray : PartsRow → List SlotRow → ImportRow → Bool
is_own_astray p earlier r = if length earlier == 0 then not (is_switch r) else is_import_astray p earlier r

abbrev pub own_slot_asked : PartsRow → ℕ → List SlotRow → SlotRow → List Check
own_slot_asked p at earlier s = check at (is_own_astray p earlier s.row) ∷ []

abbrev pub compartment_asked : PartsRow → ℕ → List CompartmentRow → CompartmentRow → List Check
compartment_asked p at earlier c =
    walked (own_slot_asked p) (λ s. ENTRY) (at + COMPARTMENT_HEAD) [] c.code.slots

abbrev pub library_asked : PartsRow → ℕ → List CodeRow → CodeRow → List Check
library_asked p at earlier c = walked (slot_asked p) (λ s. ENTRY) (at + LIBRARY_HEAD) [] c.slots

-- a thread enters an export of a compartment
abbrev pub enters_export : PartsRow → ThreadRow → Bool
enters_export p t = nat_lt t.export (exports_of (code_in p.compartments t.compartment))

abbrev pub thread_asked : PartsRow → ℕ → List ThreadRow → ThreadRow → List Check
thread_asked p at earlier t = check (at + 40) (not (enters_export p t)) ∷ []

-- the sizes of parts are those of their fields
abbrev pub part_size : CompartmentRow → ℕ
part_size c = compartment_size (raw_compartment c)

abbrev pub code_size : CodeRow → ℕ
code_size c = library_size (raw_code c)

unfoldable pub index_checks : PartsRow → List Check
index_checks p =
    walked (compartment_asked p) part_size (compartments_at (raw_of p)) [] p.compartments
    ++ walked (library_asked p) code_size (libraries_at (raw_of p)) [] p.libraries
    ++ walked (thread_asked p) (λ t. THREAD) (threads_at (raw_of p)) [] p.threads
