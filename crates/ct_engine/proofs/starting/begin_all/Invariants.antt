use Rattle.ct_engine.proofs.Begins.{BegunTo}
use Rattle.ct_engine.proofs.starting.begin_all.Given as goal

-- so many threads have started
abbrev pub invariant-loop-i : goal.invariant-loop-i
invariant-loop-i g l = BegunTo l.fn.region (g.M.Memory.granules l.fn.mem) (g.M.Memory.granules l.mem) l.list.items l.fresh l.i
