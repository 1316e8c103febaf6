use Rattle.ct_engine.proofs.engine.Engine.find.Goals as goal

pub find-requires : goal.find-requires
find-requires g c = record { laid = c.self.invariant.heap.laid }

pub returns : goal.returns
returns g c = rw (← c.self.view_is) c.find.ensures
