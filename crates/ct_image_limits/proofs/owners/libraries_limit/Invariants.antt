use Rattle.std.proofs.Common.{◌≡◌, ◌+◌, ◌≤◌, drop, take, []}
use Rattle.def_image.specs.Checks.{first as first_of, walked}
use Rattle.def_image.specs.Limits.{raw_library_entries}
use Rattle.def_image.specs.Sizes.{sum_of, library_size}
use Rattle.law_image.proofs.Walks.{Walks}
use Rattle.ct_image_limits.specs.Owners.{library_asked}
use Rattle.ct_image_limits.proofs.owners.libraries_limit.Given as goal

-- the place of the next one, the number of its first entry, and what is left of the walk
pub record Keeps (l : goal.Live-loop-index) : Type 0 where
  pub place : l.place + sum_of library_size (drop l.index l.libraries) ≡ l.at + sum_of library_size l.libraries
  pub entry : l.entry ≡ l.first + sum_of raw_library_entries (take l.index l.libraries)
  pub few : l.entry ≤ l.place
  pub rest : Walks (library_asked l.first l.compartments) library_size l.place l.index l.libraries (first_of (walked (library_asked l.first l.compartments) library_size l.at [] l.libraries))

abbrev pub invariant-loop-index : goal.invariant-loop-index
invariant-loop-index l = Keeps l
