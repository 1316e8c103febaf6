use Rattle.ct_engine.proofs.engine.Engine.quarantined.Goals as goal

pub returns : goal.returns
returns g c = rw (← c.self.view_is) (c.quarantined.ensures _ c.self.invariant.heap.laid)
