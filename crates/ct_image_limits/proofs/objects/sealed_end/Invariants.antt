use Rattle.std.proofs.Common.{◌≡◌, ◌+◌, drop}
use Rattle.def_image.specs.Sizes.{sum_of, sealed_size}
use Rattle.ct_image_limits.proofs.objects.sealed_end.Given as goal

-- the place so far, and the sizes that are left
abbrev pub invariant-loop-object : goal.invariant-loop-object
invariant-loop-object l = l.place + sum_of sealed_size (drop l.object-index l.sealed) ≡ l.at + sum_of sealed_size l.sealed
