use Rattle.ct_chunks.proofs.Absorbing.{Joining}
use Rattle.ct_chunks.proofs.joining.join.Given as goal

abbrev pub invariant-loop-left : goal.invariant-loop-left
invariant-loop-left g l = Joining l.fn.range (g.M.Memory.granules l.fn.mem) l.range (g.M.Memory.granules l.mem) l.last l.left

abbrev pub decreases-loop-left : goal.decreases-loop-left
decreases-loop-left g l = l.left
