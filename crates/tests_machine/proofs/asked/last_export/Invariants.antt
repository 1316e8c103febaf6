use Rattle.std.proofs.Common.{◌≤◌, length}
use Rattle.tests_machine.proofs.Searches.{NoneFrom}
use Rattle.tests_machine.proofs.asked.last_export.Given as goal

abbrev pub invariant-loop-end : goal.invariant-loop-end
invariant-loop-end l = record {
  none : NoneFrom l.rows l.home l.end;
  inside : l.end ≤ length l.rows;
}

abbrev pub decreases-loop-end : goal.decreases-loop-end
decreases-loop-end l = l.end
