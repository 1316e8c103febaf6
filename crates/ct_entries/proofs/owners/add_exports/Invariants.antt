use Rattle.std.proofs.Common.{◌≡◌, ◌+◌, ◌*◌, ◌++◌, drop}
use Rattle.def_boot.specs.Entries.{export_rows}
use Rattle.ct_entries.proofs.owners.add_exports.Given as goal

abbrev pub invariant-loop-export : goal.invariant-loop-export
invariant-loop-export l = (l.rows.items ++ export_rows l.index l.place (drop l._export-index l.exports) ≡ l.fn.rows.items ++ export_rows l.index l.at l.exports)
    × (l.place ≡ l.at + 16 * l._export-index)
