use Rattle.std.proofs.Common.{sym}
use Rattle.ct_machine.proofs.Stepping.{runs_by, acts_by, ends_by, carried_so}
use Rattle.ct_machine.proofs.parts.Parts.go_on.Goals as goal

pub run-ran-requires-clause-runs : goal.run-ran-requires-clause-runs
run-ran-requires-clause-runs g c = runs_by c.self.inside c.in-Some.t c.self.view_is (sym c.in-Some.ensures) c.actor-actor.ensures.some

pub finish-requires-clause-ends : goal.finish-requires-clause-ends
finish-requires-clause-ends g c =
    ends_by c.args.self.now c.run-ran.new.self c.in-Some.t c.actor-actor.result c.run-ran.result _ c.requires.may
    (runs_by c.self.inside c.in-Some.t c.self.view_is (sym c.in-Some.ensures) c.actor-actor.ensures.some)
    (acts_by c.self.inside c.in-Some.t c.self.view_is c.actor-actor.result c.actor-actor.ensures.is) c.run-ran.ensures.came

pub returns-in_default-clause-is : goal.returns-in_default-clause-is
returns-in_default-clause-is g c =
    carried_so c.args.self.now c.run-ran.new.self c.in-Some.t c.actor-actor.result c.run-ran.result c.finish.new.self.state c.finish.result
    (runs_by c.self.inside c.in-Some.t c.self.view_is (sym c.in-Some.ensures) c.actor-actor.ensures.some)
    (acts_by c.self.inside c.in-Some.t c.self.view_is c.actor-actor.result c.actor-actor.ensures.is) c.run-ran.ensures.came c.finish.ensures.is
