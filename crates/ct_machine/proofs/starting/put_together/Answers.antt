use Rattle.ct_machine.proofs.Starts.{started_is, started_kept}
use Rattle.ct_machine.proofs.starting.put_together.Goals as goal

pub invariant_of-result : goal.invariant_of-result
invariant_of-result g c = started_kept c.args.parts.now _ _ _ c.requires.sound c.requires.plan c.requires.engine c.requires.placed c.requires.sched

pub returns : goal.returns
returns g c = started_is c.args.parts.now _ _ _ _ _ c.requires.plan c.requires.engine c.requires.sched c.requires.bus
