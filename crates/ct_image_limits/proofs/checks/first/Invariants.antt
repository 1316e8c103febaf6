use Rattle.std.proofs.Common.{◌≡◌, drop}
use Rattle.def_image.specs.Checks.{first as first_in}
use Rattle.ct_image_limits.proofs.checks.first.Given as goal

abbrev pub invariant-loop-check : goal.invariant-loop-check
invariant-loop-check l = first_in (drop l.check-index l.checks) ≡ first_in l.checks
