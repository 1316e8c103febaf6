use Rattle.std.proofs.Common.{◌≡◌, true, false, inl, inr, refl, ap, eq-eqb}
use Rattle.law_lists.proofs.Tests.{eq_tells}
use Rattle.def_sched.specs.Statuses.{awaiting}
use Rattle.ct_sched.specs.Sched.{SchedRow}
use Rattle.ct_services.proofs.Rests.{serves_stops}
use Rattle.ct_services.proofs.Serving.{serves_alike}
use Rattle.ct_services.proofs.resting.wait_for.Goals as goal

pub returns-then-wait-clause-serves : goal.returns-then-wait-clause-serves
returns-then-wait-clause-serves g c =
    let held = c.args.held in
    let wanted = c.args.wanted in
    rw (c.stop.ensures.engine, c.stop.ensures.ran, ap (λ (r : SchedRow). r.statuses) c.wait.ensures.row)
    (serves_alike
    (serves_stops c.args.engine.now c.args.sched.now.statuses c.args.t (awaiting c.args.address held wanted))
    (λ i m h. rw (eq-eqb held wanted (c.if-wait.ensures.waits.0 refl)) refl))

pub returns-clause-serves : goal.returns-clause-serves
returns-clause-serves g c =
    let other : c.args.held ≡ c.args.wanted → ⊥ =
    λ same. (let clash : false ≡ true = c.if-wait.ensures.waits.1 same in cc) in
    rw (ap (λ (r : SchedRow). r.statuses) (c.if-wait.ensures.stays other))
    (serves_alike (c.refuse.ensures c.args.sched.now.statuses)
    (λ i m h. elim (eq_tells c.args.held c.args.wanted) [ inl a ↦ absurd (other a.1) | inr a ↦ rw a.0 refl ]))
