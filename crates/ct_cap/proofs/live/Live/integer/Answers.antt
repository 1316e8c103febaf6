use Rattle.std.proofs.Common.{ap}
use Rattle.ct_cap.proofs.Integers.{integer_bounds, integer_perms, integer_seal}
use Rattle.ct_cap.proofs.live.Live.integer.Goals as goal

pub invariant_of-result : goal.invariant_of-result
invariant_of-result c = (integer_bounds _ c.ranges.value.fits, ap (λ s. record { 0 = s }) (integer_perms _ c.ranges.value.fits), integer_seal _ c.ranges.value.fits)
