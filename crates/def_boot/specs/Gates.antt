-- What an export's entry has beside its row: one gate for each export, in the order of their numbers; and the entries
-- as the report has them.
use Rattle.std.specs.Prelude.{ℕ, ◌+◌, List, [], ◌∷◌, ◌++◌, length}
use Rattle.ct_entry.specs.Listed.{Listed}
use Rattle.ct_entry.specs.declared.rows.Gate.{Gate}
use Rattle.def_image.specs.declared.ExportRow.{ExportRow}
use Rattle.def_image.specs.Parts.{GateRow, CodeRow, CompartmentRow, PartsRow}
use Rattle.def_image.specs.Members.{text_base, compartment_entries, library_entries, first_library}
use Rattle.def_boot.specs.Entries.{entry_rows}

abbrev pub gate : ℕ → CodeRow → ExportRow → Gate
gate n c x = record {
  entry = n;
  code = text_base c + x.offset;
  stack = x.stack;
  args = x.args;
  posture = x.posture;
  capabilities = x.capabilities;
}

-- the first of them has number n
abbrev pub gates_in : ℕ → CodeRow → List GateRow → List Gate
gates_in n c [] = []
gates_in n c (x ∷ xs) = gate n c x.row ∷ gates_in (n + 1) c xs

-- the first compartment's first entry has number n
abbrev pub compartment_gates : ℕ → List CompartmentRow → List Gate
compartment_gates n [] = []
compartment_gates n (c ∷ cs) =
    gates_in (n + 2 + length c.code.slots) c.code c.code.exports
    ++ compartment_gates (n + compartment_entries c) cs

abbrev pub library_gates : ℕ → List CodeRow → List Gate
library_gates n [] = []
library_gates n (c ∷ cs) =
    gates_in (n + 1 + length c.slots) c c.exports ++ library_gates (n + library_entries c) cs

unfoldable pub gates_of : PartsRow → List Gate
gates_of p = compartment_gates 1 p.compartments ++ library_gates (first_library p) p.libraries

unfoldable pub entries_of : PartsRow → Listed
entries_of p = record { rows = entry_rows p; gates = gates_of p }
