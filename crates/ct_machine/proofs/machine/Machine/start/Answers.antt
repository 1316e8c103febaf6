use Rattle.ct_machine.proofs.machine.Machine.start.Goals as goal

pub invariant_of-result : goal.invariant_of-result
invariant_of-result g c = c.in-Ok.ensures.guarded

pub returns-in-Ok-clause-guarded : goal.returns-in-Ok-clause-guarded
returns-in-Ok-clause-guarded g c = c.in-Ok.ensures.guarded
