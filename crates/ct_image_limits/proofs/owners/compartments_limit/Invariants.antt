use Rattle.std.proofs.Common.{◌≡◌, ◌+◌, ◌≤◌, drop, take, []}
use Rattle.def_image.specs.Checks.{first, walked}
use Rattle.def_image.specs.Limits.{compartment_limits, raw_compartment_entries}
use Rattle.def_image.specs.Sizes.{sum_of, compartment_size}
use Rattle.law_image.proofs.Walks.{Walks}
use Rattle.ct_image_limits.proofs.owners.compartments_limit.Given as goal

-- the place of the next one, the number of its first entry, and what is left of the walk
pub record Keeps (l : goal.Live-loop-index) : Type 0 where
  pub place : l.place + sum_of compartment_size (drop l.index l.compartments) ≡ l.at + sum_of compartment_size l.compartments
  pub entry : l.entry ≡ 1 + sum_of raw_compartment_entries (take l.index l.compartments)
  pub few : l.entry ≤ l.place
  pub rest : Walks compartment_limits compartment_size l.place l.index l.compartments (first (walked compartment_limits compartment_size l.at [] l.compartments))

abbrev pub invariant-loop-index : goal.invariant-loop-index
invariant-loop-index l = Keeps l
