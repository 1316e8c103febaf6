use Rattle.std.proofs.Common.{◌≡◌, ◌+◌, ◌*◌, ◌≤◌, ◌++◌, drop}
use Rattle.std.specs.List.{AllByRecursion}
use Rattle.def_boot.specs.Gates.{library_gates}
use Rattle.ct_entries.specs.Fits.{CodeStands}
use Rattle.ct_entries.proofs.gates.add_libraries.Given as goal

abbrev pub invariant-loop-code : goal.invariant-loop-code
invariant-loop-code l = (l.gates.items ++ library_gates l.number (drop l.code-index l.libraries) ≡ l.fn.gates.items ++ library_gates l.first l.libraries)
    × AllByRecursion (CodeStands l.parts) (drop l.code-index l.libraries)
    × (l.number ≤ l.first + 213 * l.code-index)
