use Rattle.std.proofs.Common.{◌≡◌, ◌++◌, drop, map}
use Rattle.ct_graph.specs.Nodes.{row_of}
use Rattle.ct_graph.proofs.nodes.row.Given as goal

abbrev pub invariant-loop-place : goal.invariant-loop-place
invariant-loop-place l = l.all.items ++ row_of l.owner l.from (drop l.place l.nodes) (map (λ v. v.items) (drop l.place l.links)) ≡ row_of l.owner l.from l.nodes (map (λ v. v.items) l.links)
