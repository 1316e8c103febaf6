use Rattle.ct_engine.proofs.HeapTurns.{quota_there}
use Rattle.ct_engine.proofs.Granted.{holds_after, allocates_so}
use Rattle.ct_engine.proofs.engine.Engine.allocate.Goals as goal

pub allocate-requires-clause-quota : goal.allocate-requires-clause-quota
allocate-requires-clause-quota g c = quota_there (g.M.Memory.granules c.self.inside.mem) c.self.inside.rows c.args.self.now c.args.quota c.self.view_is c.requires.quota

pub invariant_of-self : goal.invariant_of-self
invariant_of-self g c = holds_after (g.M.Memory.granules c.self.inside.mem) (g.M.Memory.granules c.allocate.new.mem) c.self.inside.rows c.allocate.new.self c.args.quota c.args.size c.allocate.result
    c.self.invariant c.allocate.ensures.laid c.allocate.ensures.answer c.allocate.ensures.refused

pub returns : goal.returns
returns g c = allocates_so (g.M.Memory.granules c.self.inside.mem) (g.M.Memory.granules c.allocate.new.mem) c.self.inside.rows c.allocate.new.self c.args.self.now c.args.quota c.args.size c.allocate.result
    c.self.view_is c.self.invariant c.allocate.ensures.answer c.allocate.ensures.refused
