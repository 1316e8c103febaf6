use Rattle.tests_machine.proofs.Searches.{AllBetween}
use Rattle.tests_machine.proofs.asked.are_together.Given as goal

abbrev pub invariant-loop-i : goal.invariant-loop-i
invariant-loop-i l = AllBetween l.rows l.home l.low l.i
