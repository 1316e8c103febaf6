use Rattle.ct_engine.proofs.Instructions.{Moving, heap_by, move_holds, move_is, move_kept, move_size}
use Rattle.ct_engine.proofs.engine.Engine.loadstore.Given as given
use Rattle.ct_engine.proofs.engine.Engine.loadstore.Goals as goal

pub access-requires-clause-heap : goal.access-requires-clause-heap
access-requires-clause-heap g c = heap_by (g.M.Memory.granules c.self.inside.mem) c.self.inside.rows c.args.self.now c.args.heap c.self.view_is c.requires.heap

moving : (g : given.Over) (c : goal.After-access g)
    → Moving (g.M.Memory.granules c.self.inside.mem) (g.M.Memory.granules c.access.new.mem) c.self.inside.rows c.args.self.now
    c.args.instruction c.args.x c.args.y c.args.bus.now c.access.new.bus c.args.time c.access.result
moving g c =
    let did = c.access.ensures in
    record { is = c.self.view_is; holds = c.self.invariant; meets = c.requires.seen; moved = did.is; size = did.size }

pub invariant_of-self : goal.invariant_of-self
invariant_of-self g c = move_holds (moving g c)

pub returns-clause-is : goal.returns-clause-is
returns-clause-is g c = move_is (moving g c)

pub returns-clause-kept : goal.returns-clause-kept
returns-clause-kept g c = move_kept (moving g c)

pub returns-clause-size : goal.returns-clause-size
returns-clause-size g c = move_size (moving g c)
