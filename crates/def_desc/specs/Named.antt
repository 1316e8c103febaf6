-- The names that a description gives: of its devices and objects, of its owners, of their slots and
-- exports.
use Rattle.std.specs.Prelude.{List, ◌∷◌, ◌++◌, ℕ, map, codes}
use Rattle.ct_entry.specs.Listed.{DeviceRow}
use Rattle.def_desc.specs.Names.{key_name}
use Rattle.def_desc.specs.Rows.{DescShared, DescSealed, ImportRow, QuotaRow, ExportRow, DescCompartment, LimportRow, LexportRow, LibraryRow, DescThread, DescRow}

abbrev pub device_names : DescRow → List (List ℕ)
device_names d = map (λ (x : DeviceRow). x.name) d.devices

abbrev pub shared_names : DescRow → List (List ℕ)
shared_names d = map (λ (x : DescShared). x.name) d.shared

abbrev pub sealed_names : DescRow → List (List ℕ)
sealed_names d = map (λ (x : DescSealed). x.name) d.sealed

-- compartments, libraries and threads
abbrev pub owner_names : DescRow → List (List ℕ)
owner_names d =
    map (λ (x : DescCompartment). x.name) d.compartments
    ++ map (λ (x : LibraryRow). x.name) d.libraries
    ++ map (λ (x : DescThread). x.name) d.threads

-- slot 0 `switch`, the imports, the quotas, the keys
abbrev pub slot_names : DescCompartment → List (List ℕ)
slot_names c =
    codes "switch"
    ∷ map (λ (x : ImportRow). x.alias) c.imports
    ++ map (λ (q : QuotaRow). q.name) c.quotas
    ++ map key_name c.keys

abbrev pub export_names : DescCompartment → List (List ℕ)
export_names c = map (λ (x : ExportRow). x.name) c.exports

abbrev pub library_slot_names : LibraryRow → List (List ℕ)
library_slot_names l = map (λ (x : LimportRow). x.alias) l.imports

abbrev pub library_export_names : LibraryRow → List (List ℕ)
library_export_names l = map (λ (x : LexportRow). x.name) l.exports
