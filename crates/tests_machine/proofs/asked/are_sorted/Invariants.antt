use Rattle.tests_machine.proofs.Searches.{NeighboursRise}
use Rattle.tests_machine.proofs.asked.are_sorted.Given as goal

-- as far as the loop has come
abbrev pub invariant-loop-i : goal.invariant-loop-i
invariant-loop-i l = NeighboursRise l.gates l.i
