use Rattle.tests_machine.proofs.Searches.{NoneBefore}
use Rattle.tests_machine.proofs.asked.first_export.Given as goal

abbrev pub invariant-loop-i : goal.invariant-loop-i
invariant-loop-i l = NoneBefore l.rows l.home l.i
