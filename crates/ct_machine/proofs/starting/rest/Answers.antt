use Rattle.std.proofs.Common.{◌∙◌, ap}
use Rattle.ct_machine.specs.Starting.{at_rest}
use Rattle.ct_machine.proofs.starting.rest.Goals as goal

pub returns-clause-bus : goal.returns-clause-bus
returns-clause-bus c = c.in_ok-bus.ensures ∙ ap at_rest (ap (λ p. p.devices) c.parts.view_is)
