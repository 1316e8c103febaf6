use Rattle.std.proofs.Common.{◌≡◌, ◌≤◌, ◌-◌, ◌++◌, take, drop, length}
use Rattle.ct_graph.specs.Nodes.{with_node}
use Rattle.ct_graph.proofs.nodes.place_for.Given as goal

pub record Keeps (l : goal.Live-loop-place) : Type 0 where
  pub inside : l.place ≤ length l.nodes
  pub split : with_node l.owner l.nodes ≡ take l.place l.nodes ++ with_node l.owner (drop l.place l.nodes)

abbrev pub invariant-loop-place : goal.invariant-loop-place
invariant-loop-place l = Keeps l

abbrev pub decreases-loop-place : goal.decreases-loop-place
decreases-loop-place l = length l.nodes - l.place
