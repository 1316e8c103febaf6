use Rattle.std.proofs.Common.{◌≡◌, ◌+◌, drop, []}
use Rattle.def_image.specs.Checks.{first, walked}
use Rattle.def_image.specs.Rights.{library_rights}
use Rattle.def_image.specs.Sizes.{sum_of}
use Rattle.law_image.proofs.Walks.{Walks}
use Rattle.ct_image_parts.specs.Places.{library_bytes}
use Rattle.ct_image.proofs.rights.libraries_fault.Given as goal

-- the place of the next one, and what is left of the walk
pub record Keeps (l : goal.Live-loop-index) : Type 0 where
  pub place : l.place + sum_of library_bytes (drop l.index l.libraries) ≡ l.at + sum_of library_bytes l.libraries
  pub rest : Walks library_rights library_bytes l.place l.index l.libraries (first (walked library_rights library_bytes l.at [] l.libraries))

abbrev pub invariant-loop-index : goal.invariant-loop-index
invariant-loop-index l = Keeps l
