use Rattle.std.proofs.Common.{refl}
use Rattle.def_step.specs.Quotas.{allocated}
use Rattle.ct_services.proofs.Granted.{serves_made, serves_refused}
use Rattle.ct_services.proofs.granting.grant.Goals as goal

pub returns-in-Ok : goal.returns-in-Ok
returns-in-Ok g c =
    serves_made c.args.t (λ m a. allocated m c.args.t a) 0 c.in-Ok.ensures c.capability.ensures c.hand_out.ensures.engine
    c.hand_out.ensures.told (λ m ss. refl)

pub returns-in-Err : goal.returns-in-Err
returns-in-Err g c =
    serves_refused c.args.t (λ m a. allocated m c.args.t a) c.in-Err.ensures (λ m n. refl) c.decline.ensures
