use Rattle.ct_engine.proofs.Revoker.{finish_none, finish_holds, finish_seen}
use Rattle.ct_engine.proofs.engine.Engine.finish.Goals as goal

pub flush-requires-clause-swept : goal.flush-requires-clause-swept
flush-requires-clause-swept g c = finish_none (g.M.Memory.granules c.self.inside.mem) c.self.inside.rows c.args.self.now c.self.view_is c.self.invariant c.requires

pub invariant_of-self : goal.invariant_of-self
invariant_of-self g c =
    finish_holds (g.M.Memory.granules c.self.inside.mem) (g.M.Memory.granules c.flush.new.mem) c.self.inside.rows c.flush.new.self c.end.new.self c.self.invariant
    (record { laid = c.flush.ensures.laid; flushes = c.flush.ensures.flushes }) c.end.ensures

pub returns : goal.returns
returns g c =
    finish_seen (g.M.Memory.granules c.self.inside.mem) (g.M.Memory.granules c.flush.new.mem) c.self.inside.rows c.args.self.now c.flush.new.self c.end.new.self c.self.view_is c.self.invariant
    (record { laid = c.flush.ensures.laid; flushes = c.flush.ensures.flushes }) c.end.ensures
