use Rattle.std.proofs.Common.{◌<◌, length, map}
use Rattle.ct_graph.specs.Cells.{cell, far, Walks}
use Rattle.ct_graph.proofs.walk.walk.Given as goal

pub record Keeps (l : goal.Live-loop-here) : Type 0 where
  pub reached : far (length l.rows) l.far l.here < length l.rows
  pub walked : Walks (cell (map (λ r. r.items) l.rows)) (length l.rows) l.far l.start l.places.items l.here

abbrev pub invariant-loop-here : goal.invariant-loop-here
invariant-loop-here l = Keeps l

abbrev pub decreases-loop-here : goal.decreases-loop-here
decreases-loop-here l = far (length l.rows) l.far l.here
