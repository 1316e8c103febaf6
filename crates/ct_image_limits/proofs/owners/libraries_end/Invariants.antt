use Rattle.std.proofs.Common.{◌≡◌, ◌+◌, drop}
use Rattle.def_image.specs.Sizes.{sum_of, library_size}
use Rattle.ct_image_limits.proofs.owners.libraries_end.Given as goal

-- the place so far, and the sizes that are left
abbrev pub invariant-loop-library : goal.invariant-loop-library
invariant-loop-library l = l.place + sum_of library_size (drop l.library-index l.libraries) ≡ l.at + sum_of library_size l.libraries
