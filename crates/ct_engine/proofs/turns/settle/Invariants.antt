use Rattle.ct_engine.proofs.Whole.{Settles}
use Rattle.ct_engine.proofs.turns.settle.Given as goal

-- the first t threads stand in their areas, but for the one that runs
abbrev pub invariant-loop-t : goal.invariant-loop-t
invariant-loop-t g l = Settles (g.M.Memory.granules l.fn.mem) l.fn.rows (g.M.Memory.granules l.mem) l.rows l.t
