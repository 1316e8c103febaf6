use Rattle.ct_machine.proofs.Appending.{round_ran}
use Rattle.ct_machine.proofs.parts.Parts.round.Goals as goal

pub returns : goal.returns
returns g c = record { ran = round_ran c.sweep.ensures.is c.sweep.ensures.board c.sweep.ensures.guarded c.step.ensures.is c.step.ensures.board }
