use Rattle.std.proofs.Common.{length}
use Rattle.ct_policy.specs.Words.{texts}
use Rattle.ct_policy.proofs.Lines.{Within}
use Rattle.ct_policy.proofs.words.first_line.Given as goal

abbrev pub invariant-loop-left : goal.invariant-loop-left
invariant-loop-left l = Within l.text (texts l.words.items) l.left

abbrev pub decreases-loop-left : goal.decreases-loop-left
decreases-loop-left l = length l.left
