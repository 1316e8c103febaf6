use Rattle.std.proofs.Common.{ap, ◌∙◌}
use Rattle.def_step.specs.Events.{holder}
use Rattle.def_machine.specs.Platform.{MachineRow}
use Rattle.ct_machine.proofs.Taking.{runs_as, holder_on, holder_off}
use Rattle.ct_machine.proofs.parts.Parts.holder.Goals as goal

pub returns-then-posture : goal.returns-then-posture
returns-then-posture g c = holder_on (runs_as c.self.inside c.in-Some.ensures c.posture-posture.ensures) c.if-posture.true ∙ ap (λ (m : MachineRow). holder m.state) c.self.view_is

pub returns-else-posture : goal.returns-else-posture
returns-else-posture g c = holder_off (runs_as c.self.inside c.in-Some.ensures c.posture-posture.ensures) c.if-posture.false ∙ ap (λ (m : MachineRow). holder m.state) c.self.view_is
