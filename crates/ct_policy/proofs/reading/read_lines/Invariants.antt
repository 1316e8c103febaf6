use Rattle.std.proofs.Common.{length}
use Rattle.ct_policy.specs.Going.{Going}
use Rattle.ct_policy.proofs.reading.read_lines.Given as goal

abbrev pub invariant-loop-left : goal.invariant-loop-left
invariant-loop-left l = Going l.parts l.bytes l.rulings.items l.left

abbrev pub decreases-loop-left : goal.decreases-loop-left
decreases-loop-left l = length l.left
