use Rattle.std.proofs.Common.{◌≡◌, ◌++◌, drop, map}
use Rattle.def_image.specs.Parts.{GateRow}
use Rattle.def_boot.specs.Entries.{library_export_row}
use Rattle.ct_entries.proofs.owners.add_library_exports.Given as goal

abbrev pub invariant-loop-export : goal.invariant-loop-export
invariant-loop-export l = l.rows.items ++ map (λ (x : GateRow). library_export_row l.index l.code) (drop l._export-index l.exports) ≡ l.fn.rows.items ++ map (λ (x : GateRow). library_export_row l.index l.code) l.exports
