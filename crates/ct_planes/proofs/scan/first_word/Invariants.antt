use Rattle.std.proofs.Common.{◌≤◌, ◌-◌}
use Rattle.ct_planes.specs.Scan.{ZerosTo}
use Rattle.ct_planes.proofs.scan.first_word.Given as goal

abbrev pub invariant-loop-i : goal.invariant-loop-i
invariant-loop-i l = (l.from ≤ l.i) × (l.i ≤ l.to) × ZerosTo l.words l.from l.i

abbrev pub decreases-loop-i : goal.decreases-loop-i
decreases-loop-i l = l.to - l.i

abbrev pub invariant-loop-i-2 : goal.invariant-loop-i-2
invariant-loop-i-2 l = (l.from ≤ l.i) × (l.i ≤ l.to) × ZerosTo l.words l.from l.i

abbrev pub decreases-loop-i-2 : goal.decreases-loop-i-2
decreases-loop-i-2 l = l.to - l.i
