use Rattle.std.proofs.Common.{refl}
use Rattle.ct_services.proofs.Granted.{serves_freed}
use Rattle.ct_services.proofs.Serving.{serves_as}
use Rattle.ct_services.proofs.granting.free_whole.Goals as goal

pub returns-in-Ok : goal.returns-in-Ok
returns-in-Ok g c =
    serves_freed c.args.engine.now c.free.new.self c.answer.new.engine c.args.t c.args.quota c.args.base c.args.top
    c.in-Ok.ensures.is c.in-Ok.object c.integer.result c.in-Ok.ensures.told c.integer.ensures c.answer.ensures

pub returns-in-Err : goal.returns-in-Err
returns-in-Err g c =
    let e = c.in-Err.ensures in
    serves_as (rw (e.is, e.told) at c.refuse.ensures) (λ i m ss h. rw e.told refl)
