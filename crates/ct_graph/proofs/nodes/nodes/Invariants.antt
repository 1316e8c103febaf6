use Rattle.std.proofs.Common.{◌≡◌, ◌≤◌, drop, length}
use Rattle.ct_graph.specs.Nodes.{nodes_of}
use Rattle.ct_graph.proofs.nodes.nodes.Given as goal

pub record Keeps (l : goal.Live-loop-left) : Type 0 where
  pub inside : l.left ≤ length l.links
  pub so_far : l.all.items ≡ nodes_of (drop l.left l.links)

abbrev pub invariant-loop-left : goal.invariant-loop-left
invariant-loop-left l = Keeps l

abbrev pub decreases-loop-left : goal.decreases-loop-left
decreases-loop-left l = l.left
