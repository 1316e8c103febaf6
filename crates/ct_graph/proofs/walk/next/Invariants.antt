use Rattle.std.proofs.Common.{◌≡◌, ℕ, ◌+◌, ◌<◌, true, false, length, slice_index_or}
use Rattle.ct_graph.specs.Cells.{far}
use Rattle.ct_graph.proofs.walk.next.Given as goal

abbrev pub invariant-loop-place : goal.invariant-loop-place
invariant-loop-place l = (z : ℕ) → z < l.place → slice_index_or l.row z false ≡ true → l.own ≡ far (length l.far) l.far z + 1 → ⊥
