use Rattle.std.proofs.Common.{refl, ◌∙◌}
use Rattle.def_machine.specs.Heap.{new_object}
use Rattle.ct_engine.proofs.Sealed.{row_absent, row_fits}
use Rattle.ct_engine.proofs.engine.Engine.allocate_sealed.Goals as goal

pub add-requires-clause-absent : goal.add-requires-clause-absent
add-requires-clause-absent g c =
    row_absent c.args.self.now (new_object c.args.self.now.state c.args.quota c.args.size c.in_ok-object.object.base) c.self.invariant
    (c.self.view_is ∙ c.in_ok-object.ensures.is) c.requires.rows c.in_ok-object.object.number c.in_ok-object.ensures.told.number

pub add-requires-clause-room : goal.add-requires-clause-room
add-requires-clause-room g c =
    row_fits c.args.self.now (new_object c.args.self.now.state c.args.quota c.args.size c.in_ok-object.object.base) c.self.invariant
    (c.self.view_is ∙ c.in_ok-object.ensures.is) c.requires.rows refl
