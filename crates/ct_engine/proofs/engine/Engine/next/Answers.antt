use Rattle.std.proofs.Common.{◌∙◌}
use Rattle.ct_engine.proofs.Instructions.{even_by, next_is}
use Rattle.ct_engine.proofs.engine.Engine.next.Goals as goal

pub next-requires : goal.next-requires
next-requires g c = even_by (g.M.Memory.granules c.self.inside.mem) c.self.inside.rows c.args.self.now c.self.view_is c.requires.even

pub returns-clause-is : goal.returns-clause-is
returns-clause-is g c = c.next.ensures.is ∙ next_is (g.M.Memory.granules c.self.inside.mem) c.self.inside.rows c.args.self.now c.args.at c.self.view_is c.requires.seen
