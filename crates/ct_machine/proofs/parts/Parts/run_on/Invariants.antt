use Rattle.std.proofs.Common.{◌-◌}
use Rattle.ct_machine.proofs.Onward.{Onward}
use Rattle.ct_machine.proofs.parts.Parts.run_on.Given as goal

abbrev pub invariant-loop-count : goal.invariant-loop-count
invariant-loop-count g l = Onward l.fn.self l.self l.most l.count

abbrev pub decreases-loop-count : goal.decreases-loop-count
decreases-loop-count g l = l.most - l.count
