use Rattle.std.proofs.Common.{◌≡◌, ◌++◌, drop, map}
use Rattle.ct_graph.specs.Nodes.{rows_of}
use Rattle.ct_graph.proofs.nodes.rows.Given as goal

abbrev pub invariant-loop-place : goal.invariant-loop-place
invariant-loop-place l = map (λ v. v.items) l.all.items ++ rows_of l.nodes (map (λ v. v.items) l.links) (drop l.place l.nodes) (map (λ v. v.items) (drop l.place l.links)) ≡ rows_of l.nodes (map (λ v. v.items) l.links) l.nodes (map (λ v. v.items) l.links)
