-- What each entry number of an image stands for: nothing, the trusted part, a compartment's code,
-- globals, slot or export, a library's code, slot or export, or a thread's stack. Owners and threads
-- go by index, and so do the slots and exports of each.
use Rattle.std.specs.Prelude.{ℕ, ◌+◌, ◌*◌, ◌≡◌, ◌≤◌, Some, slice_get}
use Rattle.ct_entry.specs.declared.rows.Entry.{Entry}
use Rattle.ct_entry.specs.declared.rows.Gate.{Gate}
use Rattle.ct_entry.specs.declared.rows.Owner.{Owner}
use Rattle.ct_entry.specs.declared.rows.Owner.TheVariants.{Compartment, Library}
use Rattle.def_profile.specs.declared.layout.TheConstants.{SLOT_SIZE}
use Rattle.def_memory.specs.Granules.{plain}
use Rattle.def_reach.specs.Roots.{root_of, gate_for, listed_root, no_root, no_gate, trusted_root}
use Rattle.def_image.specs.declared.ImportRow.{ImportRow}
use Rattle.def_image.specs.Parts.{SlotRow, GateRow, CodeRow, CompartmentRow, ThreadRow, PartsRow}
use Rattle.def_image.specs.Members.{gate_address, code_number, globals_number, library_number, stack_number, gate_number, library_gate_number}
use Rattle.def_boot.specs.Entries.{slot_entry, code_row, globals_row, export_row, library_export_row, stack_row}
use Rattle.def_boot.specs.Gates.{gate, gates_of, entries_of}
use Rattle.def_boot.specs.Made.{boot_cap_of, entry_cap, return_sentry}

-- entry n has this row and this gate, and boot made what the row says
pub record HasRow (p : PartsRow) (n : ℕ) (r : Entry) (g : Gate) : Type 0 where
  pub counted : 1 ≤ n
  pub root_is : root_of (entries_of p) n ≡ listed_root (Some r) g
  pub gate_is : gate_for (gates_of p) n ≡ g
  pub made_is : boot_cap_of p n ≡ entry_cap p n r r.kind

-- ---- slots

-- slot j of an owner whose code this is
abbrev pub slot_row_at : PartsRow → Owner → CodeRow → ℕ → ImportRow → Entry
slot_row_at p o c j r = slot_entry p o (c.base + SLOT_SIZE * j) r r.kind

-- a compartment's slots come after its code and globals, a library's after its code
abbrev pub slot_number : PartsRow → ℕ → ℕ → ℕ
slot_number p b j = code_number p b + 2 + j

abbrev pub library_slot_number : PartsRow → ℕ → ℕ → ℕ
library_slot_number p l j = library_number p l + 1 + j

-- ---- owners

-- compartment c has index b, and its rows the numbers that are reckoned for them; its exports alone
-- have gates
pub record HasCompartment (p : PartsRow) (b : ℕ) (c : CompartmentRow) : Type 0 where
  pub there : slice_get p.compartments b ≡ Some c
  pub code : HasRow p (code_number p b) (code_row (Compartment b) c.code) no_gate
  pub globals : HasRow p (globals_number p b) (globals_row b c) no_gate
  pub next : globals_number p b ≡ code_number p b + 1
  pub slot : (j : ℕ) (s : SlotRow) → slice_get c.code.slots j ≡ Some s
      → HasRow p (slot_number p b j) (slot_row_at p (Compartment b) c.code j s.row) no_gate
  pub export : (j : ℕ) (x : GateRow) → slice_get c.code.exports j ≡ Some x
      → HasRow p (gate_number p b j) (export_row b (gate_address c j))
      (gate (gate_number p b j) c.code x.row)

pub record HasLibrary (p : PartsRow) (l : ℕ) (c : CodeRow) : Type 0 where
  pub there : slice_get p.libraries l ≡ Some c
  pub code : HasRow p (library_number p l) (code_row (Library l) c) no_gate
  pub slot : (j : ℕ) (s : SlotRow) → slice_get c.slots j ≡ Some s
      → HasRow p (library_slot_number p l j) (slot_row_at p (Library l) c j s.row) no_gate
  pub export : (j : ℕ) (x : GateRow) → slice_get c.exports j ≡ Some x
      → HasRow p (library_gate_number p l j) (library_export_row l c)
      (gate (library_gate_number p l j) c x.row)

pub record HasStack (p : PartsRow) (t : ℕ) (x : ThreadRow) : Type 0 where
  pub there : slice_get p.threads t ≡ Some x
  pub row : HasRow p (stack_number p t) (stack_row t x) no_gate

-- ---- by number

pub data EntryIs (p : PartsRow) (n : ℕ) : Type 0 where
  is_nothing : root_of (entries_of p) n ≡ no_root → gate_for (gates_of p) n ≡ no_gate
      → boot_cap_of p n ≡ plain 0 → EntryIs p n
  is_trusted : n ≡ 0 → root_of (entries_of p) n ≡ trusted_root → gate_for (gates_of p) n ≡ no_gate
      → boot_cap_of p n ≡ return_sentry → EntryIs p n
  is_code : (b : ℕ) (c : CompartmentRow) → HasCompartment p b c → n ≡ code_number p b → EntryIs p n
  is_globals : (b : ℕ) (c : CompartmentRow) → HasCompartment p b c → n ≡ globals_number p b
      → EntryIs p n
  is_slot : (b : ℕ) (c : CompartmentRow) (j : ℕ) (s : SlotRow) → HasCompartment p b c
      → slice_get c.code.slots j ≡ Some s → n ≡ slot_number p b j → EntryIs p n
  is_export : (b : ℕ) (c : CompartmentRow) (j : ℕ) (x : GateRow) → HasCompartment p b c
      → slice_get c.code.exports j ≡ Some x → n ≡ gate_number p b j → EntryIs p n
  is_library : (l : ℕ) (c : CodeRow) → HasLibrary p l c → n ≡ library_number p l → EntryIs p n
  is_library_slot : (l : ℕ) (c : CodeRow) (j : ℕ) (s : SlotRow) → HasLibrary p l c
      → slice_get c.slots j ≡ Some s → n ≡ library_slot_number p l j → EntryIs p n
  is_library_export : (l : ℕ) (c : CodeRow) (j : ℕ) (x : GateRow) → HasLibrary p l c
      → slice_get c.exports j ≡ Some x → n ≡ library_gate_number p l j → EntryIs p n
  is_stack : (t : ℕ) (x : ThreadRow) → HasStack p t x → n ≡ stack_number p t → EntryIs p n
