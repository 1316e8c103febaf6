use Rattle.std.proofs.Common.{◌≡◌, ◌+◌, drop, []}
use Rattle.def_image.specs.Checks.{first, walked}
use Rattle.def_image.specs.Indexes.{compartment_asked}
use Rattle.def_image.specs.Sizes.{sum_of}
use Rattle.law_image.proofs.Walks.{Walks}
use Rattle.ct_image_parts.specs.Places.{compartment_bytes}
use Rattle.ct_image.proofs.indexes.compartments_fault.Given as goal

-- the place of the next one, and what is left of the walk
pub record Keeps (l : goal.Live-loop-index) : Type 0 where
  pub place : l.place + sum_of compartment_bytes (drop l.index l.compartments) ≡ l.at + sum_of compartment_bytes l.compartments
  pub rest : Walks (compartment_asked l.parts) compartment_bytes l.place l.index l.compartments (first (walked (compartment_asked l.parts) compartment_bytes l.at [] l.compartments))

abbrev pub invariant-loop-index : goal.invariant-loop-index
invariant-loop-index l = Keeps l
