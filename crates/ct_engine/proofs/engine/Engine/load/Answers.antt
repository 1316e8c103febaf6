use Rattle.std.proofs.Common.{◌∙◌}
use Rattle.ct_engine.proofs.Away.{access_by, load_is}
use Rattle.ct_engine.proofs.engine.Engine.load.Goals as goal

pub load-requires : goal.load-requires
load-requires g c = access_by (g.M.Memory.granules c.self.inside.mem) c.self.inside.rows c.args.self.now c.args.at c.args.width c.self.view_is c.requires.access

pub returns : goal.returns
returns g c = c.load.ensures ∙ load_is (g.M.Memory.granules c.self.inside.mem) c.self.inside.rows c.args.self.now c.args.at c.args.width c.self.view_is c.requires.seen
