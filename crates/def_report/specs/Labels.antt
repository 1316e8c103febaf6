-- What the report says of each entry beside its row: one label for each entry, in the order of their numbers.
use Rattle.std.specs.Prelude.{ℕ, ◌==◌, false, List, [], ◌∷◌, ◌++◌, map, option_map, unwrap_or, slice_get, codes, if◌then◌else◌}
use Rattle.std.specs.List.{flat_map}
use Rattle.ct_entry.specs.declared.rows.Mode.TheVariants.{Inherit}
use Rattle.ct_entry.specs.Listed.{DeviceRow}
use Rattle.def_native.specs.declared.TheConstants.{SWITCH}
use Rattle.def_desc.specs.declared.tables.TheConstants.{SERVICES}
use Rattle.def_desc.specs.References.{export_name}
use Rattle.def_image.specs.declared.ImportRow.{ImportRow}
use Rattle.def_image.specs.declared.ExportRow.{ExportRow}
use Rattle.def_image.specs.declared.SlotKind.{SlotKind}
use Rattle.def_image.specs.declared.SlotKind.TheVariants.{Service, Device, Shared, Sealed, Call, Library, Quota, Key}
use Rattle.def_image.specs.Parts.{SlotRow, GateRow, CodeRow, CompartmentRow, ThreadRow, PartsRow}
use Rattle.def_image.specs.Members.{compartment, library, shared, sealed}

-- The name of the owner; of a slot or an export its own; of a slot the name of what it is of, and, if that is sealed,
-- the type; and an export's row.
pub record Label : Type 0 where
  pub owner : List ℕ
  pub name : List ℕ
  pub of : List ℕ
  pub seal : ℕ
  pub export : ExportRow

abbrev pub no_export : ExportRow
no_export = record {
  offset = 0;
  stack = 0;
  args = 0;
  posture = Inherit;
  capabilities = false;
  entry = 0;
}

abbrev pub owner_label : List ℕ → Label
owner_label owner = record { owner = owner; name = []; of = []; seal = 0; export = no_export }

-- ---- names

-- the name of the first row with this number
abbrev pub name_by_number : {R : Type 0} → (R → List ℕ) → (R → ℕ) → ℕ → List R → List ℕ
name_by_number name number n [] = []
name_by_number name number n (r ∷ rs) = if number r == n then name r else name_by_number name number n rs

-- a service by the number of its native routine
unfoldable pub service_name : ℕ → List ℕ
service_name n = if n == SWITCH then codes "switch" else name_by_number (λ r. r.0.now) (λ r. r.1) n SERVICES

abbrev pub device_name : PartsRow → ℕ → List ℕ
device_name p n = unwrap_or (option_map (λ (d : DeviceRow). d.name) (slice_get p.devices n)) []

abbrev pub gate_name : List GateRow → ℕ → List ℕ
gate_name xs j = unwrap_or (option_map (λ (x : GateRow). x.name) (slice_get xs j)) []

-- export j of this code, as `owner.export`
abbrev pub exported_name : CodeRow → ℕ → List ℕ
exported_name c j = export_name c.name (gate_name c.exports j)

-- what a slot is of, by its kind
abbrev pub of_name : PartsRow → ImportRow → SlotKind → List ℕ
of_name p r Service = service_name r.first
of_name p r Device = device_name p r.first
of_name p r Shared = (shared p r.first).name
of_name p r Sealed = (sealed p r.first).name
of_name p r Call = exported_name (compartment p r.first).code r.second
of_name p r Library = exported_name (library p r.first) r.second
of_name p r Quota = []
of_name p r Key = []

abbrev pub seal_of : PartsRow → ImportRow → SlotKind → ℕ
seal_of p r Sealed = (sealed p r.first).seal
seal_of p r _ = 0

-- ---- labels

abbrev pub slot_label : PartsRow → List ℕ → SlotRow → Label
slot_label p owner s =
    record (owner_label owner) {
      name = s.name;
      of = of_name p s.row s.row.kind;
      seal = seal_of p s.row s.row.kind;
    }

abbrev pub export_label : List ℕ → GateRow → Label
export_label owner x = record (owner_label owner) { name = x.name; export = x.row }

abbrev pub slots_and_exports : PartsRow → CodeRow → List Label
slots_and_exports p c = map (slot_label p c.name) c.slots ++ map (export_label c.name) c.exports

-- code, globals, slots and exports
abbrev pub compartment_labels : PartsRow → CompartmentRow → List Label
compartment_labels p c = owner_label c.code.name ∷ owner_label c.code.name ∷ slots_and_exports p c.code

abbrev pub library_labels : PartsRow → CodeRow → List Label
library_labels p c = owner_label c.name ∷ slots_and_exports p c

unfoldable pub labels_of : PartsRow → List Label
labels_of p =
    flat_map (compartment_labels p) p.compartments
    ++ flat_map (library_labels p) p.libraries
    ++ map (λ (t : ThreadRow). owner_label t.name) p.threads
