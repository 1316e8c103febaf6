use Rattle.std.proofs.Common.{ap, ◌∙◌}
use Rattle.def_machine.specs.State.{State}
use Rattle.ct_machine.specs.Going.{sleepers_on}
use Rattle.ct_machine.proofs.Taking.{ticked_as}
use Rattle.ct_machine.proofs.parts.Parts.tick.Goals as goal

pub returns-clause-is : goal.returns-clause-is
returns-clause-is g c =
    ticked_as c.args.self.now.state c.shorten_sleeps.new.self.state c.interrupt.new.self.state c.holder-before.result c.begun-off.result
    (c.shorten_sleeps.ensures.state ∙ ap (λ (s : State). sleepers_on s) c.count_tick.ensures.state)
    c.interrupt.ensures.state c.holder-before.ensures c.begun-off.ensures
