use Rattle.std.proofs.Common.{◌≡◌, ◌+◌, ◌++◌, length, drop}
use Rattle.std.specs.List.{AllByRecursion}
use Rattle.def_boot.specs.Gates.{gates_in}
use Rattle.ct_entries.specs.Fits.{Starts}
use Rattle.ct_entries.proofs.gates.add_gates.Given as goal

abbrev pub invariant-loop-export : goal.invariant-loop-export
invariant-loop-export l = (l.gates.items ++ gates_in l.next l.code (drop l.export-index l.exports) ≡ l.fn.gates.items ++ gates_in l.number l.code l.exports)
    × (l.next ≡ l.number + l.export-index)
    × AllByRecursion (Starts (length l.code.text)) (drop l.export-index l.exports)
