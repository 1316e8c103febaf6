use Rattle.std.proofs.Common.{refl}
use Rattle.def_step.specs.Instructions.{served}
use Rattle.def_step.specs.Native.{native}
use Rattle.def_machine.specs.Platform.{MachineRow}
use Rattle.ct_machine.proofs.ServedSteps.{may_serve, holds_callee, came_served, served_done, served_kept}
use Rattle.ct_machine.proofs.Keeping.{came_by}
use Rattle.ct_machine.proofs.parts.Parts.serve.Goals as goal

pub serve-requires-clause-may : goal.serve-requires-clause-may
serve-requires-clause-may g c =
    let i = c.self.inside in
    may_serve i.plan i.engine i.sched i.bus i.pending i.time i.counts c.args.t c.self.invariant.0 c.ram-ram.result c.args.number c.entries-e.result.now _
    c.self.view_is c.requires.may c.requires.runs c.requires.made c.self.invariant.1 c.ram-ram.ensures c.entries-e.ensures.is c.entries-e.ensures.sound

pub invariant_of-self : goal.invariant_of-self
invariant_of-self g c =
    let i = c.self.inside in
    served_kept i.plan i.engine i.sched i.bus i.pending i.time i.counts c.args.t c.self.invariant.0 c.args.number c.entries-e.result.now
    c.serve.new.engine c.serve.new.sched c.serve.result c.serve.ensures.sched c.serve.ensures.serves _ c.self.view_is
    c.requires.made c.self.invariant.1

pub returns-clause-came : goal.returns-clause-came
returns-clause-came g c =
    let i = c.self.inside in
    came_by (λ (m : MachineRow). served m.board m.state c.args.t (native m.board.image m.state c.args.t c.args.number))
    c.self.view_is refl
    (came_served i.plan i.engine i.sched i.bus i.pending i.time i.counts c.args.t c.self.invariant.0 c.args.number c.entries-e.result.now
    c.serve.new.engine c.serve.new.sched c.serve.result c.serve.ensures.sched c.serve.ensures.serves
    (holds_callee i.plan i.engine i.sched i.bus i.pending i.time i.counts c.args.t c.self.invariant.0 c.entries-e.result.now _
    c.self.view_is c.requires.may c.requires.runs c.entries-e.ensures.is c.entries-e.ensures.sound))

pub returns-clause-done : goal.returns-clause-done
returns-clause-done g c =
    let i = c.self.inside in
    served_done i.plan i.engine i.sched i.bus i.pending i.time i.counts c.args.t c.self.invariant.0 c.args.number c.entries-e.result.now
    c.serve.new.engine c.serve.new.sched c.serve.result c.serve.ensures.sched c.serve.ensures.serves
    (holds_callee i.plan i.engine i.sched i.bus i.pending i.time i.counts c.args.t c.self.invariant.0 c.entries-e.result.now _
    c.self.view_is c.requires.may c.requires.runs c.entries-e.ensures.is c.entries-e.ensures.sound)
