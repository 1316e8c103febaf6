-- The rows of import and export tables that a description stands for. What is named is given by its
-- index; a well-formed description names nothing that isn't there.
use Rattle.std.specs.Prelude.{ℕ, ◌+◌, List, [], ◌∷◌, ◌++◌, map, length, Bool, true, false, nat_lt, Option, Some, None, unwrap_or, bytes_eq, if◌then◌else◌, codes}
use Rattle.std.specs.List.{position_or_len}
use Rattle.def_native.specs.declared.TheConstants.{SWITCH}
use Rattle.def_profile.specs.declared.rights.TheConstants.{GL, SD, LG, LM, LD, MC, SERVICE_RIGHTS, SEALED_RIGHTS, EXPORT_RIGHTS, CODE_RIGHTS, QUOTA_RIGHTS, KEY_RIGHTS}
use Rattle.def_words.specs.Permissions.{packed}
use Rattle.def_image.specs.declared.ImportRow.{ImportRow as SlotImport}
use Rattle.def_image.specs.declared.ExportRow.{ExportRow as GateExport}
use Rattle.def_image.specs.declared.SlotKind.{SlotKind}
use Rattle.def_image.specs.declared.SlotKind.TheVariants as kind
use Rattle.def_image.specs.Parts.{SlotRow, GateRow}
use Rattle.def_desc.specs.declared.Rights.{Rights}
use Rattle.def_desc.specs.declared.tables.Form.{Form}
use Rattle.def_desc.specs.declared.tables.Form.TheVariants as form
use Rattle.def_desc.specs.declared.tables.Passes.{Passes}
use Rattle.def_desc.specs.declared.tables.Passes.TheVariants.{Capabilities, Data}
use Rattle.def_desc.specs.Tables.{service_of}
use Rattle.def_desc.specs.Names.{key_name}
use Rattle.def_desc.specs.Named.{device_names, shared_names, sealed_names, export_names, library_export_names}
use Rattle.def_desc.specs.Reading.{rights_of_text}
use Rattle.def_desc.specs.References.{target_of, export_name}
use Rattle.def_desc.specs.Rows.{Target, ImportRow, QuotaRow, ExportRow, DescCompartment, LimportRow, LexportRow, LibraryRow, DescRow}
use Rattle.def_link.specs.Owners.{Built, begin_of, numbered}

-- ---- where a name stands

-- the index of the first element of that name, or their number
abbrev pub index_of : List ℕ → List (List ℕ) → ℕ
index_of name names = position_or_len (bytes_eq name) names

-- an export by its owner's index and its own
pub record Exported : Type 0 where
  pub owner : ℕ
  pub export : ℕ

abbrev pub exported : ℕ → ℕ → Exported
exported owner export = record { owner = owner; export = export }

-- an owner's name with the names of its exports
pub record Exporter : Type 0 where
  pub name : List ℕ
  pub exports : List (List ℕ)

abbrev pub full_names : Exporter → List (List ℕ)
full_names x = map (export_name x.name) x.exports

-- the first export that is named `owner.export`, in owners of which the first has index n
abbrev pub export_from : List ℕ → ℕ → List Exporter → Exported
export_from name n [] = exported n 0
export_from name n (x ∷ xs) =
    let i = index_of name (full_names x) in
    if nat_lt i (length x.exports) then exported n i else export_from name (n + 1) xs

abbrev pub compartment_exporters : DescRow → List Exporter
compartment_exporters d =
    map (λ (c : DescCompartment). record { name = c.name; exports = export_names c }) d.compartments

abbrev pub library_exporters : DescRow → List Exporter
library_exporters d =
    map (λ (l : LibraryRow). record { name = l.name; exports = library_export_names l }) d.libraries

abbrev pub compartment_export_named : DescRow → List ℕ → Exported
compartment_export_named d name = export_from name 0 (compartment_exporters d)

abbrev pub library_export_named : DescRow → List ℕ → Exported
library_export_named d name = export_from name 0 (library_exporters d)

-- ---- rights

-- R is LD, W is SD, and C is MC, with LM and LG where R is there
abbrev pub granted : Rights → ℕ
granted r =
    GL + (if r.read then LD else 0) + (if r.write then SD else 0)
    + (if r.capabilities then MC + (if r.read then LM + LG else 0) else 0)

abbrev pub claimed : ImportRow → ℕ
claimed x = packed (granted (rights_of_text (unwrap_or x.rights [])))

-- ---- slots

abbrev pub slot_row : SlotKind → ℕ → ℕ → ℕ → SlotImport
slot_row kind rights first second = record {
  kind = kind;
  rights = rights;
  first = first;
  second = second;
}

abbrev pub slot : List ℕ → SlotImport → SlotRow
slot name row = record { row = row; name = name }

abbrev pub exported_row : SlotKind → ℕ → Exported → SlotImport
exported_row kind rights x = slot_row kind rights x.owner x.export

abbrev pub form_row : DescRow → ℕ → Form → List ℕ → SlotImport
form_row d rights form.Device name = slot_row kind.Device rights (index_of name (device_names d)) 0
form_row d rights form.Shared name = slot_row kind.Shared rights (index_of name (shared_names d)) 0
form_row d rights form.Sealed name =
    slot_row kind.Sealed (packed SEALED_RIGHTS) (index_of name (sealed_names d)) 0
form_row d rights form.Call name = exported_row kind.Call (packed EXPORT_RIGHTS) (compartment_export_named d name)
form_row d rights form.Service name =
    slot_row kind.Service (packed SERVICE_RIGHTS) (unwrap_or (service_of name) 0) 0
form_row d rights form.Library name = exported_row kind.Library (packed CODE_RIGHTS) (library_export_named d name)

abbrev pub switch_row : SlotImport
switch_row = slot_row kind.Service (packed SERVICE_RIGHTS) SWITCH 0

abbrev pub target_row : DescRow → ℕ → Option Target → SlotImport
target_row d rights None = switch_row
target_row d rights (Some t) = form_row d rights t.form t.name

abbrev pub import_slot : DescRow → ImportRow → SlotRow
import_slot d x = slot x.alias (target_row d (claimed x) (target_of x))

abbrev pub quota_slot : QuotaRow → SlotRow
quota_slot q = slot q.name (slot_row kind.Quota (packed QUOTA_RIGHTS) q.limit 0)

abbrev pub key_slot : ℕ → SlotRow
key_slot n = slot (key_name n) (slot_row kind.Key (packed KEY_RIGHTS) n 0)

abbrev pub compartment_slots : DescRow → DescCompartment → List SlotRow
compartment_slots d c =
    slot (codes "switch") switch_row ∷ map (import_slot d) c.imports ++ map quota_slot c.quotas ++ map key_slot c.keys

abbrev pub library_slots : DescRow → LibraryRow → List SlotRow
library_slots d l =
    map (λ (x : LimportRow). slot x.alias (form_row d 0 form.Library x.library)) l.imports

-- ---- exports

abbrev pub passes_capabilities : Passes → Bool
passes_capabilities Capabilities = true
passes_capabilities Data = false

abbrev pub gate_row : List ℕ → GateExport → GateRow
gate_row name row = record { row = row; name = name }

-- `entry` is the number of the first export's entry; an export is counted on from it
abbrev pub export_gate : Built → ℕ → ExportRow → GateRow
export_gate b entry x = gate_row x.name (record {
  offset = unwrap_or (begin_of b x.at) 0;
  stack = x.stack;
  args = x.args;
  posture = x.posture;
  capabilities = passes_capabilities x.passes;
  entry = entry;
})

abbrev pub compartment_gate_rows : Built → ℕ → DescCompartment → List GateRow
compartment_gate_rows b entry c = numbered (export_gate b) entry c.exports

-- a library's export passes what its caller has
abbrev pub lexport_gate : Built → ℕ → LexportRow → GateRow
lexport_gate b entry x = gate_row x.name (record {
  offset = unwrap_or (begin_of b x.at) 0;
  stack = 0;
  args = 0;
  posture = x.posture;
  capabilities = true;
  entry = entry;
})

abbrev pub library_gate_rows : Built → ℕ → LibraryRow → List GateRow
library_gate_rows b entry l = numbered (lexport_gate b) entry l.exports
