use Rattle.std.proofs.Common.{◌≡◌, ◌+◌, ◌≤◌, drop}
use Rattle.def_image.specs.Sizes.{sum_of, compartment_size}
use Rattle.def_image.specs.Limits.{raw_compartment_entries}
use Rattle.ct_image_limits.proofs.owners.compartments_end.Given as goal

-- place and number so far, and what is left of both sums
pub record Keeps (l : goal.Live-loop-compartment) : Type 0 where
  pub place : l.place + sum_of compartment_size (drop l.compartment-index l.compartments) ≡ l.at + sum_of compartment_size l.compartments
  pub entry : l.entry + sum_of raw_compartment_entries (drop l.compartment-index l.compartments) ≡ 1 + sum_of raw_compartment_entries l.compartments
  pub few : l.entry ≤ l.place

abbrev pub invariant-loop-compartment : goal.invariant-loop-compartment
invariant-loop-compartment l = Keeps l
