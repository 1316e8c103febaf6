use Rattle.std.proofs.Common.{◌≡◌, ◌+◌, drop}
use Rattle.def_image.specs.Sizes.{sum_of}
use Rattle.ct_image_parts.specs.Places as spec
use Rattle.ct_image_parts.proofs.sizes.compartments_end.Given as goal

-- the place so far, and the sizes that are left
abbrev pub invariant-loop-compartment : goal.invariant-loop-compartment
invariant-loop-compartment l = l.place + sum_of spec.compartment_bytes (drop l.compartment-index l.compartments) ≡ l.at + sum_of spec.compartment_bytes l.compartments
