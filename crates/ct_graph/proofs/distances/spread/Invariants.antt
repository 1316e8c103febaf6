use Rattle.std.proofs.Common.{◌≡◌, ℕ, length, map}
use Rattle.ct_graph.specs.Cells.{cell, far, Relaxed, IsSpread}
use Rattle.ct_graph.proofs.distances.spread.Given as goal

pub record Keeps (l : goal.Live-loop-other) : Type 0 where
  pub size : length l.far.items ≡ length l.rows
  pub spreads : (b : ℕ) → Relaxed (cell (map (λ r. r.items) l.rows)) (length l.rows) b l.fn.far.items → far (length l.rows) l.fn.far.items l.place ≡ l.near
      → IsSpread (cell (map (λ r. r.items) l.rows)) (length l.rows) b l.place l.near l.other l.fn.far.items l.far.items

abbrev pub invariant-loop-other : goal.invariant-loop-other
invariant-loop-other l = Keeps l
