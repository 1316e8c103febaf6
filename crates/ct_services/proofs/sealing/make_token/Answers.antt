use Rattle.std.proofs.Common.{refl}
use Rattle.ct_services.proofs.Serving.{serves_by_key, register_alike}
use Rattle.ct_services.proofs.sealing.make_token.Goals as goal

pub returns-in-Ok : goal.returns-in-Ok
returns-in-Ok g c = serves_by_key c.in-Ok.ensures c.seal_new.ensures (λ i m ss h. rw (← register_alike m c.args.engine.now ss c.args.t 11, c.address-size.ensures, c.register.ensures, c.in-Ok.ensures.same) refl)

pub returns-in-Err : goal.returns-in-Err
returns-in-Err g c = c.in-Err.ensures _
