use Rattle.std.proofs.Common.{length}
use Rattle.ct_script.specs.Lines.{Going}
use Rattle.ct_script.proofs.reading.read_lines.Given as goal

abbrev pub invariant-loop-left : goal.invariant-loop-left
invariant-loop-left l = Going l.devices l.bytes l.lines l.left

abbrev pub decreases-loop-left : goal.decreases-loop-left
decreases-loop-left l = length l.left
