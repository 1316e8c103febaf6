use Rattle.std.proofs.Common.{◌≡◌, ◌+◌, drop}
use Rattle.def_image.specs.Sizes.{sum_of}
use Rattle.ct_image_parts.specs.Places as spec
use Rattle.ct_image_parts.proofs.sizes.sealed_end.Given as goal

-- the place so far, and the sizes that are left
abbrev pub invariant-loop-object : goal.invariant-loop-object
invariant-loop-object l = l.place + sum_of spec.sealed_bytes (drop l.object-index l.sealed) ≡ l.at + sum_of spec.sealed_bytes l.sealed
