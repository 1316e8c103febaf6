use Rattle.ct_chunks.proofs.Painting.{Painting}
use Rattle.ct_chunks.proofs.states.paint.Given as goal

abbrev pub invariant-loop-left : goal.invariant-loop-left
invariant-loop-left g l = Painting l.range (g.M.Memory.granules l.fn.mem) (g.M.Memory.granules l.mem) l.left

abbrev pub decreases-loop-left : goal.decreases-loop-left
decreases-loop-left g l = l.left
