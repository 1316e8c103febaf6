use Rattle.ct_machine.proofs.Guards.{kept_by, told_by}
use Rattle.ct_machine.proofs.machine.Machine.advance.Goals as goal

pub invariant_of-self : goal.invariant_of-self
invariant_of-self g c = kept_by c.self.inside.parts c.advance.new.self c.args.event c.self.invariant c.advance.ensures.state c.advance.ensures.board

pub returns-clause-guarded : goal.returns-clause-guarded
returns-clause-guarded g c = kept_by c.self.inside.parts c.advance.new.self c.args.event c.self.invariant c.advance.ensures.state c.advance.ensures.board

pub returns-clause-licensed : goal.returns-clause-licensed
returns-clause-licensed g c = told_by c.self.inside.parts c.args.self.now c.args.event c.advance.result c.self.invariant c.self.view_is c.advance.ensures.told
