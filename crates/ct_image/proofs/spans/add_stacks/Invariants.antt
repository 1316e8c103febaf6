use Rattle.std.proofs.Common.{◌≡◌, ◌+◌, ◌*◌, ◌++◌, drop}
use Rattle.ct_image.specs.Spans.{rows_of, stack_rows}
use Rattle.ct_image.proofs.spans.add_stacks.Given as goal

-- the place of the next one, and the regions so far with those to come
pub record Keeps (l : goal.Live-loop-thread) : Type 0 where
  pub place : l.place ≡ l.at + 56 * l.thread-index
  pub rows : rows_of l.spans.items ++ stack_rows l.place (drop l.thread-index l.threads) ≡ rows_of l.fn.spans.items ++ stack_rows l.at l.threads

abbrev pub invariant-loop-thread : goal.invariant-loop-thread
invariant-loop-thread l = Keeps l
