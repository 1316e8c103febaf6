use Rattle.std.proofs.Common.{◌≡◌, ◌+◌, ◌++◌, drop}
use Rattle.def_image.specs.Sizes.{sum_of}
use Rattle.ct_image_parts.specs.Places.{compartment_bytes}
use Rattle.ct_image.specs.Spans.{rows_of, compartment_rows}
use Rattle.ct_image.proofs.spans.add_compartments.Given as goal

-- the place of the next one, and the regions so far with those to come
pub record Keeps (l : goal.Live-loop-compartment) : Type 0 where
  pub place : l.place + sum_of compartment_bytes (drop l.compartment-index l.compartments) ≡ l.at + sum_of compartment_bytes l.compartments
  pub rows : rows_of l.spans.items ++ compartment_rows l.place (drop l.compartment-index l.compartments) ≡ rows_of l.fn.spans.items ++ compartment_rows l.at l.compartments

abbrev pub invariant-loop-compartment : goal.invariant-loop-compartment
invariant-loop-compartment l = Keeps l
