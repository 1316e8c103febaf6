use Rattle.std.proofs.Common.{refl}
use Rattle.ct_services.proofs.Serving.{serves_by_key}
use Rattle.ct_services.proofs.sealing.open_by_key.Goals as goal

pub returns-in-Ok : goal.returns-in-Ok
returns-in-Ok g c = serves_by_key c.in-Ok.ensures c.open_token.ensures (λ i m ss h. refl)

pub returns-in-Err : goal.returns-in-Err
returns-in-Err g c = c.in-Err.ensures _
