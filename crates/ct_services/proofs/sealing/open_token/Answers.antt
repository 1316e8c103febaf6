use Rattle.std.proofs.Common.{refl}
use Rattle.ct_services.proofs.Serving.{serves_as, register_alike}
use Rattle.ct_services.proofs.Sealed.{found_so, none_found}
use Rattle.ct_services.proofs.sealing.open_token.Goals as goal

pub returns-in-Some : goal.returns-in-Some
returns-in-Some g c =
    let s = c.args.engine.now in
    serves_as c.tell.ensures
    (λ i m ss h.
    rw (← register_alike m s ss c.args.t 11, ← c.register-c.ensures, (found_so _ _ _ c.in-Some.ensures).is, c.opened.ensures) refl)

pub returns-in-None : goal.returns-in-None
returns-in-None g c =
    serves_as c.refuse.ensures
    (λ i m ss h.
    rw (← register_alike m c.args.engine.now ss c.args.t 11, ← c.register-c.ensures, none_found _ _ c.in-None.ensures) refl)
