use Rattle.std.proofs.Common.{◌≡◌, ◌++◌, drop}
use Rattle.std.specs.List.{AllByRecursion}
use Rattle.def_boot.specs.Entries.{library_rows, rows_from}
use Rattle.ct_entries.specs.Fits.{CodeStands}
use Rattle.ct_entries.proofs.owners.add_libraries.Given as goal

abbrev pub invariant-loop-index : goal.invariant-loop-index
invariant-loop-index l = (l.rows.items ++ rows_from (library_rows l.parts) l.index (drop l.index l.libraries) ≡ l.fn.rows.items ++ rows_from (library_rows l.parts) 0 l.libraries)
    × AllByRecursion (CodeStands l.parts) (drop l.index l.libraries)
