-- *Entries* of an image, in the order of their numbers from 1: of each compartment its code, its globals, its slots and
-- its exports, of each library the same but globals, of each thread its stack.
use Rattle.std.specs.Prelude.{ℕ, ◌+◌, ◌*◌, List, [], ◌∷◌, ◌++◌, map}
use Rattle.ct_entry.specs.declared.rows.Entry.{Entry}
use Rattle.ct_entry.specs.declared.rows.Owner.{Owner}
use Rattle.ct_entry.specs.declared.rows.Owner.TheVariants.{Compartment, Library, Thread}
use Rattle.ct_entry.specs.declared.rows.Kind.TheVariants as kind
use Rattle.ct_entry.specs.Listed.{row}
use Rattle.def_profile.specs.declared.rights.TheConstants.{CODE_RIGHTS, GLOBALS_RIGHTS, EXPORT_RIGHTS, STACK_RIGHTS}
use Rattle.def_profile.specs.declared.native.TheConstants.{NATIVE_BASE, NATIVE_UNIT, NATIVE_LENGTH}
use Rattle.def_profile.specs.declared.layout.TheConstants.{DEVICE_SIZE, SLOT_SIZE, TABLE_HEAD, TABLE_ROW}
use Rattle.def_image.specs.declared.ImportRow.{ImportRow}
use Rattle.def_image.specs.declared.SlotKind.{SlotKind}
use Rattle.def_image.specs.declared.SlotKind.TheVariants as slot
use Rattle.def_image.specs.Parts.{SlotRow, GateRow, CodeRow, CompartmentRow, ThreadRow, PartsRow}
use Rattle.def_image.specs.Rights.{rights_of}
use Rattle.def_image.specs.Members.{compartment, library, shared, sealed, device_base, gate_address, gate_number, library_gate_number}

-- ---- slots

abbrev pub native_address : ℕ → ℕ
native_address n = NATIVE_BASE + NATIVE_UNIT * n

-- A slot that stands at this address, by its kind. A quota's range is its own slot, a key's the one type that it opens.
abbrev pub slot_entry : PartsRow → Owner → ℕ → ImportRow → SlotKind → Entry
slot_entry p o at r slot.Service =
    row o kind.Service (native_address r.first) NATIVE_LENGTH (rights_of r) r.first
slot_entry p o at r slot.Device =
    row o kind.Device (device_base p r.first) DEVICE_SIZE (rights_of r) r.first
slot_entry p o at r slot.Shared =
    row o kind.Shared (shared p r.first).base (shared p r.first).length (rights_of r) r.first
slot_entry p o at r slot.Sealed =
    row o kind.Sealed (sealed p r.first).base (sealed p r.first).length (rights_of r) r.first
slot_entry p o at r slot.Call =
    row o kind.Call (gate_address (compartment p r.first) r.second) TABLE_ROW (rights_of r)
    (gate_number p r.first r.second)
slot_entry p o at r slot.Library =
    row o kind.Library (library p r.first).base (library p r.first).length (rights_of r)
    (library_gate_number p r.first r.second)
slot_entry p o at r slot.Quota =
    record (row o kind.Quota at SLOT_SIZE (rights_of r) 0) { limit = r.first }
slot_entry p o at r slot.Key = row o kind.Key r.first 1 (rights_of r) 0

-- the first of them stands at this address
abbrev pub slot_rows : PartsRow → Owner → ℕ → List SlotRow → List Entry
slot_rows p o at [] = []
slot_rows p o at (s ∷ ss) = slot_entry p o at s.row s.row.kind ∷ slot_rows p o (at + SLOT_SIZE) ss

-- ---- owners

abbrev pub code_row : Owner → CodeRow → Entry
code_row o c = row o kind.Code c.base c.length CODE_RIGHTS 0

abbrev pub globals_row : ℕ → CompartmentRow → Entry
globals_row b c = row (Compartment b) kind.Globals c.globals c.globals_length GLOBALS_RIGHTS 0

-- an export of a compartment has the range of its row in the export table
abbrev pub export_row : ℕ → ℕ → Entry
export_row b at = row (Compartment b) kind.Export at TABLE_ROW EXPORT_RIGHTS 0

abbrev pub export_rows : ℕ → ℕ → List GateRow → List Entry
export_rows b at [] = []
export_rows b at (x ∷ xs) = export_row b at ∷ export_rows b (at + TABLE_ROW) xs

abbrev pub compartment_rows : PartsRow → ℕ → CompartmentRow → List Entry
compartment_rows p b c =
    code_row (Compartment b) c.code ∷ globals_row b c
    ∷ slot_rows p (Compartment b) c.code.base c.code.slots
    ++ export_rows b (c.table + TABLE_HEAD) c.code.exports

-- an export of a library has its code's range and rights
abbrev pub library_export_row : ℕ → CodeRow → Entry
library_export_row l c = row (Library l) kind.Export c.base c.length CODE_RIGHTS 0

abbrev pub library_rows : PartsRow → ℕ → CodeRow → List Entry
library_rows p l c =
    code_row (Library l) c
    ∷ slot_rows p (Library l) c.base c.slots
    ++ map (λ (x : GateRow). library_export_row l c) c.exports

abbrev pub stack_row : ℕ → ThreadRow → Entry
stack_row t x = row (Thread t) kind.Stack x.stack x.stack_length STACK_RIGHTS 0

-- ---- all, each list's members by their index

abbrev pub rows_from : {A : Type 0} → (ℕ → A → List Entry) → ℕ → List A → List Entry
rows_from rows i [] = []
rows_from rows i (x ∷ xs) = rows i x ++ rows_from rows (i + 1) xs

unfoldable pub entry_rows : PartsRow → List Entry
entry_rows p =
    rows_from (compartment_rows p) 0 p.compartments
    ++ rows_from (library_rows p) 0 p.libraries
    ++ rows_from (λ t x. stack_row t x ∷ []) 0 p.threads
