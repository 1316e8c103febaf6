-- Where the parts of a sound image lie, what boot makes for an entry, and what an import of an export
-- names.
use Rattle.std.specs.Prelude.{ℕ, ◌+◌, ◌%◌, ◌≡◌, ◌≤◌, true, Some, slice_get}
use Rattle.ct_entry.specs.declared.rows.Entry.{Entry}
use Rattle.ct_entry.specs.declared.rows.Kind.{Kind}
use Rattle.ct_entry.specs.declared.rows.Kind.TheVariants as kind
use Rattle.def_profile.specs.declared.layout.TheConstants.{REGION_UNIT}
use Rattle.def_profile.specs.declared.seals.TheConstants.{SENTRY_INHERIT, EXPORT_TYPE, QUOTA_TYPE}
use Rattle.def_words.specs.declared.Cap.{Cap}
use Rattle.def_words.specs.LeastBounds.{rounded_of}
use Rattle.def_words.specs.Narrows.{IsMade}
use Rattle.def_reach.specs.Roots.{gate_for}
use Rattle.def_image.specs.Parts.{GateRow, CodeRow, CompartmentRow, PartsRow}
use Rattle.def_image.specs.Members.{sealed, gate_address, gate_number, library_gate_number}
use Rattle.def_boot.specs.Entries.{export_row, library_export_row}
use Rattle.def_boot.specs.Gates.{gate, gates_of}
use Rattle.def_boot.specs.Made.{from_entry, boot_cap_of, sentry_type}
use Rattle.def_boot.specs.Rows.{HasRow}

-- a range in RAM below the heap, at multiples of 16, with bounds that a word can spell
pub record Lies (p : PartsRow) (base size : ℕ) : Type 0 where
  pub low : p.ram ≤ base
  pub high : base + size ≤ p.heap
  pub even : base % REGION_UNIT ≡ 0
  pub whole : size % REGION_UNIT ≡ 0
  pub exact : (rounded_of base (base + size)).exact ≡ true

-- ---- what boot makes

-- this capability was made for entry n, with this range, these rights, this address and this type
pub record MadeAs (n low high rights at kind : ℕ) (d : Cap) : Type 0 where
  pub made : IsMade low high rights at kind d
  pub shadow_is : d.shadow ≡ from_entry n

-- the address of what boot makes for an entry: a stack's top, the code of a library's export, else
-- the base
abbrev pub address_for : PartsRow → Entry → Kind → ℕ
address_for p r kind.Stack = r.base + r.length
address_for p r kind.Library = (gate_for (gates_of p) r.of).code
address_for p r _ = r.base

-- and its type: a sentry of its posture for a library's export; 0 where it is unsealed
abbrev pub type_for : PartsRow → Entry → Kind → ℕ
type_for p r kind.Service = SENTRY_INHERIT
type_for p r kind.Library = sentry_type (gate_for (gates_of p) r.of).posture
type_for p r kind.Sealed = (sealed p r.of).seal
type_for p r kind.Call = EXPORT_TYPE
type_for p r kind.Quota = QUOTA_TYPE
type_for p r _ = 0

-- boot makes for entry n just what its row says: its range and rights
abbrev pub MadeFor : PartsRow → ℕ → Entry → Type 0
MadeFor p n r =
    MadeAs n r.base (r.base + r.length) r.rights (address_for p r r.kind) (type_for p r r.kind)
    (boot_cap_of p n)

-- ---- what is named

-- entry n is an export of a compartment
pub record ExportAt (p : PartsRow) (n : ℕ) : Type 0 where
  pub index : ℕ
  pub compartment : CompartmentRow
  pub which : ℕ
  pub export : GateRow
  pub owner : slice_get p.compartments index ≡ Some compartment
  pub there : slice_get compartment.code.exports which ≡ Some export
  pub number : n ≡ gate_number p index which
  pub row : HasRow p n (export_row index (gate_address compartment which))
      (gate n compartment.code export.row)

-- entry n is an export of a library
pub record LibraryExportAt (p : PartsRow) (n : ℕ) : Type 0 where
  pub index : ℕ
  pub library : CodeRow
  pub which : ℕ
  pub export : GateRow
  pub owner : slice_get p.libraries index ≡ Some library
  pub there : slice_get library.exports which ≡ Some export
  pub number : n ≡ library_gate_number p index which
  pub row : HasRow p n (library_export_row index library) (gate n library export.row)
