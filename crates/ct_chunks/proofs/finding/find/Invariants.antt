use Rattle.std.proofs.Common.{◌-◌}
use Rattle.ct_chunks.proofs.Walks.{Walk}
use Rattle.ct_chunks.proofs.finding.find.Given as goal

abbrev pub invariant-loop-link : goal.invariant-loop-link
invariant-loop-link g l = Walk l.range (g.M.Memory.granules l.mem) l.unit l.length l.before l.before_size l.link

abbrev pub decreases-loop-link : goal.decreases-loop-link
decreases-loop-link g l = 4294967295 - l.link
