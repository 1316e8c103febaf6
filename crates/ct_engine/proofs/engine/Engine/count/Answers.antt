use Rattle.std.proofs.Common.{◌∙◌}
use Rattle.ct_engine.proofs.Away.{count_is}
use Rattle.ct_engine.proofs.engine.Engine.count.Goals as goal

pub returns : goal.returns
returns g c = c.len.ensures ∙ c.self.inside.rows.list.ok.0 ∙ count_is (g.M.Memory.granules c.self.inside.mem) c.self.inside.rows c.args.self.now c.self.view_is
