use Rattle.std.proofs.Common.{length, map}
use Rattle.ct_graph.specs.Cells.{cell, HasLevels}
use Rattle.ct_graph.proofs.distances.distances.Given as goal

abbrev pub invariant-loop-near : goal.invariant-loop-near
invariant-loop-near l = HasLevels (cell (map (λ r. r.items) l.rows)) (length l.rows) l.end l.near l.far.items
