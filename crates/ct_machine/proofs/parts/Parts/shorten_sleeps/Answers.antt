use Rattle.std.proofs.Common.{ap, ◌∙◌}
use Rattle.def_machine.specs.Platform.{MachineRow}
use Rattle.ct_machine.specs.Going.{sleepers_on}
use Rattle.ct_machine.proofs.Taking.{timed_is}
use Rattle.ct_machine.proofs.Keeping.{ticked_kept}
use Rattle.ct_machine.proofs.parts.Parts.shorten_sleeps.Goals as goal

pub returns-clause-state : goal.returns-clause-state
returns-clause-state g c =
    timed_is c.self.inside c.tick.new.self c.self.invariant.0.statuses c.tick.ensures
    ∙ ap (λ (m : MachineRow). sleepers_on m.state) c.self.view_is

pub invariant_of-self : goal.invariant_of-self
invariant_of-self g c = (ticked_kept c.self.inside.plan c.self.inside.engine c.self.inside.sched c.tick.new.self c.self.invariant.0 c.tick.ensures, c.self.invariant.1)
