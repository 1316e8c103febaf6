use Rattle.std.proofs.Common.{◌≡◌, ◌+◌, drop}
use Rattle.def_image.specs.Sizes.{sum_of}
use Rattle.ct_image_parts.specs.Places as spec
use Rattle.ct_image_parts.proofs.sizes.libraries_end.Given as goal

-- the place so far, and the sizes that are left
abbrev pub invariant-loop-library : goal.invariant-loop-library
invariant-loop-library l = l.place + sum_of spec.library_bytes (drop l.library-index l.libraries) ≡ l.at + sum_of spec.library_bytes l.libraries
