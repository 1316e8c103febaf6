use Rattle.std.proofs.Common.{◌≡◌, ◌++◌, drop}
use Rattle.std.specs.List.{AllByRecursion}
use Rattle.def_boot.specs.Entries.{compartment_rows, rows_from}
use Rattle.ct_entries.specs.Fits.{CompartmentStands}
use Rattle.ct_entries.proofs.owners.add_compartments.Given as goal

abbrev pub invariant-loop-index : goal.invariant-loop-index
invariant-loop-index l = (l.rows.items ++ rows_from (compartment_rows l.parts) l.index (drop l.index l.compartments) ≡ l.fn.rows.items ++ rows_from (compartment_rows l.parts) 0 l.compartments)
    × AllByRecursion (CompartmentStands l.parts) (drop l.index l.compartments)
