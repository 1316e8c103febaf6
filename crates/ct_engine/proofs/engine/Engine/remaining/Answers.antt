use Rattle.ct_engine.proofs.HeapTurns.{limit_of, quota_there}
use Rattle.ct_engine.proofs.engine.Engine.remaining.Goals as goal

pub remaining-requires : goal.remaining-requires
remaining-requires g c = record { quota = quota_there (g.M.Memory.granules c.self.inside.mem) c.self.inside.rows c.args.self.now c.args.quota c.self.view_is c.requires.quota }

pub returns : goal.returns
returns g c =
    rw (← c.self.view_is, limit_of c.self.inside.rows.heap.accounts c.args.quota)
    (c.remaining.ensures (g.M.Memory.granules c.self.inside.mem) c.self.invariant.heap.laid)
