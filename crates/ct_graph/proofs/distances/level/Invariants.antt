use Rattle.std.proofs.Common.{◌≡◌, ℕ, length, map}
use Rattle.ct_graph.specs.Cells.{cell, HasLevels, IsLevel}
use Rattle.ct_graph.proofs.distances.level.Given as goal

pub record Keeps (l : goal.Live-loop-place) : Type 0 where
  pub size : length l.far.items ≡ length l.rows
  pub levels : (b : ℕ) → HasLevels (cell (map (λ r. r.items) l.rows)) (length l.rows) b l.near l.fn.far.items
      → IsLevel (cell (map (λ r. r.items) l.rows)) (length l.rows) b l.near l.place l.far.items

abbrev pub invariant-loop-place : goal.invariant-loop-place
invariant-loop-place l = Keeps l
