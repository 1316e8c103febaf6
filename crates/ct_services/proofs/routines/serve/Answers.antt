use Rattle.std.proofs.Common.{◌≡◌, refl, arith}
use Rattle.def_native.specs.declared.TheConstants.{TOKEN_FREE}
use Rattle.ct_services.proofs.Serving.{serves_alike, serves_other, registers_alike}
use Rattle.ct_services.proofs.routines.serve.Goals as goal

pub switch-requires-clause-may : goal.switch-requires-clause-may
switch-requires-clause-may g c = c.requires.may.call c.in-0.is

pub returns-in-0-clause-serves : goal.returns-in-0-clause-serves
returns-in-0-clause-serves g c = rw c.in-0.is (c.switch.ensures c.args.sched.now.statuses)

pub returns-in-2-clause-serves : goal.returns-in-2-clause-serves
returns-in-2-clause-serves g c = rw c.in-2.is (serves_other c.rest.ensures.serves)

pub returns-in-3-clause-serves : goal.returns-in-3-clause-serves
returns-in-3-clause-serves g c =
    let s = c.args.engine.now in
    let ss = c.args.sched.now.statuses in
    rw c.in-3.is
    (serves_other
    (serves_alike c.rest-in-3.ensures.serves
    (λ i m h. rw (registers_alike m s ss c.args.t, c.address-ticks.ensures, c.register.ensures) refl)))

pub returns-in-4-clause-serves : goal.returns-in-4-clause-serves
returns-in-4-clause-serves g c = rw c.in-4.is (serves_other c.wait.ensures.serves)

pub returns-in-5-clause-serves : goal.returns-in-5-clause-serves
returns-in-5-clause-serves g c = rw c.in-5.is (serves_other c.wake.ensures.serves)

pub returns-in-6-clause-serves : goal.returns-in-6-clause-serves
returns-in-6-clause-serves g c = rw c.in-6.is (serves_other (c.allocate.ensures c.args.sched.now.statuses))

pub returns-in-7-clause-serves : goal.returns-in-7-clause-serves
returns-in-7-clause-serves g c = rw c.in-7.is (serves_other (c.free.ensures c.args.sched.now.statuses))

pub returns-in-8-clause-serves : goal.returns-in-8-clause-serves
returns-in-8-clause-serves g c = rw c.in-8.is (serves_other (c.remaining.ensures c.args.sched.now.statuses))

pub returns-in-9-clause-serves : goal.returns-in-9-clause-serves
returns-in-9-clause-serves g c = rw c.in-9.is (serves_other (c.token_key.ensures c.args.sched.now.statuses))

pub returns-in-10-clause-serves : goal.returns-in-10-clause-serves
returns-in-10-clause-serves g c = rw c.in-10.is (serves_other (c.token_new.ensures c.args.sched.now.statuses))

pub returns-in-11-clause-serves : goal.returns-in-11-clause-serves
returns-in-11-clause-serves g c = rw c.in-11.is (serves_other (c.token_open.ensures c.args.sched.now.statuses))

pub returns-in_default-clause-serves : goal.returns-in_default-clause-serves
returns-in_default-clause-serves g c =
    let few = c.requires.routine.few in
    let other = c.requires.routine.other in
    let is : c.args.number ≡ TOKEN_FREE = omega (arith, c.in_default, few, other) in
    rw is (serves_other (c.token_free.ensures c.args.sched.now.statuses))
