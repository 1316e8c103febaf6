use Rattle.ct_heap.proofs.Unnaming.{Unnaming}
use Rattle.ct_heap.proofs.table.unname.Given as goal

abbrev pub invariant-loop-left : goal.invariant-loop-left
invariant-loop-left g l = Unnaming l.range (g.M.Memory.granules l.fn.mem) (g.M.Memory.granules l.mem) l.fn.names.items l.names.items l.waiting l.left

abbrev pub decreases-loop-left : goal.decreases-loop-left
decreases-loop-left g l = l.left
