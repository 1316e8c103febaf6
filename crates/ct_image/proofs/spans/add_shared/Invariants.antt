use Rattle.std.proofs.Common.{◌≡◌, ◌+◌, ◌*◌, ◌++◌, drop}
use Rattle.ct_image.specs.Spans.{rows_of, shared_rows}
use Rattle.ct_image.proofs.spans.add_shared.Given as goal

-- the place of the next one, and the regions so far with those to come
pub record Keeps (l : goal.Live-loop-object) : Type 0 where
  pub place : l.place ≡ l.at + 40 * l.object-index
  pub rows : rows_of l.spans.items ++ shared_rows l.place (drop l.object-index l.shared) ≡ rows_of l.fn.spans.items ++ shared_rows l.at l.shared

abbrev pub invariant-loop-object : goal.invariant-loop-object
invariant-loop-object l = Keeps l
