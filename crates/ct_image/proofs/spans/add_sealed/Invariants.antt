use Rattle.std.proofs.Common.{◌≡◌, ◌+◌, ◌++◌, drop}
use Rattle.def_image.specs.Sizes.{sum_of}
use Rattle.ct_image_parts.specs.Places.{sealed_bytes}
use Rattle.ct_image.specs.Spans.{rows_of, sealed_rows}
use Rattle.ct_image.proofs.spans.add_sealed.Given as goal

-- the place of the next one, and the regions so far with those to come
pub record Keeps (l : goal.Live-loop-object) : Type 0 where
  pub place : l.place + sum_of sealed_bytes (drop l.object-index l.sealed) ≡ l.at + sum_of sealed_bytes l.sealed
  pub rows : rows_of l.spans.items ++ sealed_rows l.place (drop l.object-index l.sealed) ≡ rows_of l.fn.spans.items ++ sealed_rows l.at l.sealed

abbrev pub invariant-loop-object : goal.invariant-loop-object
invariant-loop-object l = Keeps l
