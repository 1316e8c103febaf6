use Rattle.std.proofs.Common.{◌≤◌, drop, length}
use Rattle.ct_graph.specs.Links.{ArePassing}
use Rattle.ct_graph.proofs.links.passing.Given as goal

abbrev pub invariant-loop-left : goal.invariant-loop-left
invariant-loop-left l = record {
  inside : l.left ≤ length l.gates;
  so_far : ArePassing (drop l.left l.gates) l.count l.all.items;
}

abbrev pub decreases-loop-left : goal.decreases-loop-left
decreases-loop-left l = l.left
