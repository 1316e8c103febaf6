use Rattle.std.proofs.Common.{refl}
use Rattle.ct_services.proofs.Serving.{serves_as, serves_no_return, registers_alike}
use Rattle.ct_services.proofs.sealing.token_open.Goals as goal

pub returns-in-Some : goal.returns-in-Some
returns-in-Some g c = λ ss. serves_no_return ss c.register.ensures c.in-Some.ensures

pub returns-in-None : goal.returns-in-None
returns-in-None g c =
    serves_as c.open_by_key.ensures
    (λ i m ss h. rw (registers_alike m c.args.engine.now ss c.args.t, ← c.register.ensures, ← c.in-None.ensures) refl)
