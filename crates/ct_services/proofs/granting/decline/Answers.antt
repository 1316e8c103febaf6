use Rattle.std.proofs.Common.{refl}
use Rattle.ct_services.proofs.Serving.{serves_as}
use Rattle.ct_services.proofs.granting.decline.Goals as goal

pub returns : goal.returns
returns g c = serves_as c.refuse.ensures (λ i m ss h. rw (c.refused.ensures.is, c.quarantined-waits.ensures) refl)
