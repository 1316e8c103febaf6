use Rattle.ct_machine.proofs.Onward.{ran_licensed}
use Rattle.ct_machine.proofs.machine.Machine.run_on.Goals as goal

pub returns-clause-licensed : goal.returns-clause-licensed
returns-clause-licensed g c =
    ran_licensed c.self.inside.parts c.args.self.now c.run_on.new.self c.run_on.result.count c.run_on.result.told c.self.invariant c.self.view_is c.run_on.ensures.some c.run_on.ensures.ran.0
