-- What a switch reads of the entries: the export that it enters, and where its compartment's export table begins.
use Rattle.std.specs.Prelude.{ℕ, zero, suc, ◌+◌, ◌-◌, ◌%◌, ◌&&◌, ◌==◌, ◌≡◌, ◌≤◌, ◌<◌, Bool, true, false, List, length, find, Option, None, unwrap_or, slice_get, slice_index_or}
use Rattle.std.specs.List.Sorted.{IsNonDecreasingBy}
use Rattle.ct_entry.specs.Kinds.{is_export}
use Rattle.ct_entry.specs.Listed.{Listed, row}
use Rattle.ct_entry.specs.declared.rows.Entry.{Entry}
use Rattle.ct_entry.specs.declared.rows.Gate.{Gate}
use Rattle.ct_entry.specs.declared.rows.Owner.{Owner}
use Rattle.ct_entry.specs.declared.rows.Owner.TheVariants.{Trusted, Compartment, Library, Thread}
use Rattle.ct_entry.specs.declared.rows.Kind.TheVariants as kind
use Rattle.def_profile.specs.declared.layout.TheConstants.{TABLE_HEAD}
use Rattle.def_reach.specs.Roots.{root_of, gate_for, compartment_of}
use Rattle.ct_switch.specs.declared.exports.Export.{Export}

-- ---- rows

abbrev pub no_row : Entry
no_row = row Trusted kind.Code 0 0 0 0

-- the row at an index, which is the entry numbered one more
abbrev pub row_at : List Entry → ℕ → Entry
row_at rows i = slice_index_or rows i no_row

-- and of an entry's number; the trusted part's, 0, has none
abbrev pub row_named : List Entry → ℕ → Option Entry
row_named rows zero = None
row_named rows (suc i) = slice_get rows i

abbrev pub is_compartment : ℕ → Owner → Bool
is_compartment b Trusted = false
is_compartment b (Compartment c) = c == b
is_compartment b (Library l) = false
is_compartment b (Thread t) = false

-- an export of this compartment
abbrev pub is_export_of : ℕ → Entry → Bool
is_export_of b r = is_export r.kind && is_compartment b r.owner

-- its export table begins with the head, before the row of its first export
abbrev pub table_in : List Entry → ℕ → ℕ
table_in rows b = (unwrap_or (find (λ r. is_export_of b r) rows) no_row).base - TABLE_HEAD

abbrev pub table_of : Listed → ℕ → ℕ
table_of e b = table_in e.rows b

-- the row at an index is an export of this compartment
pub record IsExport (e : Listed) (b i : ℕ) : Type 0 where
  pub inside : i < length e.rows
  pub is : is_export_of b (row_at e.rows i) ≡ true

-- the exports of a compartment stand together among the entries
abbrev pub AreTogether : List Entry → ℕ → Type 0
AreTogether rows b =
    (i j k : ℕ) → i ≤ j → j ≤ k → is_export_of b (row_at rows i) ≡ true
    → is_export_of b (row_at rows k) ≡ true
    → is_export_of b (row_at rows j) ≡ true

-- a row at or before an index is an export of a compartment, and the one right before it, where there is one, isn't
pub record IsFirstUpTo (index : ℕ) (rows : List Entry) (b first : ℕ) : Type 0 where
  pub back : first ≤ index
  pub export : is_export_of b (row_at rows first) ≡ true
  pub start : 0 < first → is_export_of b (row_at rows (first - 1)) ≡ false

abbrev pub callee_of : Listed → ℕ → ℕ
callee_of e export = compartment_of (root_of e export).owner

-- ---- the export that is entered

-- gates stand by the numbers of their exports
abbrev pub AreSorted : List Gate → Type 0
AreSorted gates = IsNonDecreasingBy (λ (g : Gate). g.entry) gates

abbrev pub export_of : Listed → ℕ → Export
export_of e export = record {
  number = export;
  callee = callee_of e export;
  code = (gate_for e.gates export).code;
  stack = (gate_for e.gates export).stack;
  args = (gate_for e.gates export).args;
  passes = (root_of e export).passes;
  disabled = (root_of e export).disabled;
}

-- ---- what a call asks of the entries

-- the head of an export table lies in RAM of so many bytes
pub record HeadLies (ram size table : ℕ) : Type 0 where
  pub low : ram ≤ table
  pub even : table % 8 ≡ ram % 8
  pub high : table + TABLE_HEAD ≤ ram + size

-- A number is that of an export of a compartment, whose exports stand together, and the head of whose export table lies
-- in RAM of so many bytes.
pub record IsCallable (e : Listed) (ram size n : ℕ) : Type 0 where
  pub counted : 1 ≤ n
  pub export : IsExport e (callee_of e n) (n - 1)
  pub together : AreTogether e.rows (callee_of e n)
  pub head : HeadLies ram size (table_of e (callee_of e n))
