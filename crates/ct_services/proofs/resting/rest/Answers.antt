use Rattle.std.proofs.Common.{refl, ap}
use Rattle.def_sched.specs.Statuses.{asleep}
use Rattle.ct_sched.specs.Sched.{SchedRow}
use Rattle.ct_services.proofs.Rests.{serves_stops}
use Rattle.ct_services.proofs.Serving.{serves_alike, serves_no_return, registers_alike}
use Rattle.ct_services.proofs.resting.rest.Goals as goal

pub returns-in-Some-clause-serves : goal.returns-in-Some-clause-serves
returns-in-Some-clause-serves g c = serves_no_return c.args.sched.now.statuses c.register.ensures c.in-Some.ensures

pub returns-clause-serves : goal.returns-clause-serves
returns-clause-serves g c =
    let s = c.args.engine.now in
    let ss = c.args.sched.now.statuses in
    rw (c.stop.ensures.engine, c.stop.ensures.ran, ap (λ (r : SchedRow). r.statuses) c.sleep.ensures)
    (serves_alike (serves_stops s ss c.args.t (asleep c.args.ticks))
    (λ i m h. rw (registers_alike m s ss c.args.t, ← c.register.ensures, ← c.in_default.ensures) refl))
