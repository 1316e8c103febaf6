use Rattle.std.proofs.Common.{◌≡◌, ◌<◌, ℕ, length, map, slice_index_or, []}
use Rattle.ct_graph.specs.Cells.{cell, IsDistance}
use Rattle.ct_graph.proofs.sharing.all_distances.Given as goal

pub record Keeps (l : goal.Live-loop-end) : Type 0 where
  pub size : length l.all.items ≡ l.end
  pub each : (b : ℕ) → b < l.end → IsDistance (cell (map (λ r. r.items) l.rows)) (length l.rows) b (slice_index_or (map (λ d. d.items) l.all.items) b [])

abbrev pub invariant-loop-end : goal.invariant-loop-end
invariant-loop-end l = Keeps l
