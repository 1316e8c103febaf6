use Rattle.std.proofs.Common.{ap, ◌∙◌}
use Rattle.def_machine.specs.Platform.{MachineRow}
use Rattle.ct_machine.proofs.Stepping.{acts_by}
use Rattle.ct_machine.proofs.Taking.{begun_new, holder_runs}
use Rattle.ct_machine.proofs.parts.Parts.begun.Goals as goal

pub actor-requires : goal.actor-requires
actor-requires g c =
    ap (λ (m : MachineRow). m.state.running) c.self.view_is ∙ holder_runs c.args.self.now.state c.args.self.now.state.running c.in-Some.held c.in-Some.ensures

pub returns-else-is_holder : goal.returns-else-is_holder
returns-else-is_holder g c =
    begun_new c.args.before c.args.self.now.state c.in-Some.held c.actor.result c.in-Some.ensures c.if-is_holder.ensures
    (acts_by c.self.inside c.in-Some.held.0 c.self.view_is c.actor.result c.actor.ensures.is)
