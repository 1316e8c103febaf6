use Rattle.std.proofs.Common.{refl}
use Rattle.ct_services.proofs.Serving.{serves_by_quota, registers_alike}
use Rattle.ct_services.proofs.granting.allocate.Goals as goal

pub returns-in-Ok : goal.returns-in-Ok
returns-in-Ok g c =
    let w = c.in-Ok.ensures in
    serves_by_quota w c.grant.ensures
    (λ i m ss h. rw (registers_alike m c.args.engine.now ss c.args.t, w.entry, c.address.ensures, c.register-size.ensures, w.same) refl)

pub returns-in-Err : goal.returns-in-Err
returns-in-Err g c = c.in-Err.ensures _
