use Rattle.std.proofs.Common.{◌≡◌, take, map}
use Rattle.ct_graph.specs.Links.{own}
use Rattle.ct_graph.proofs.nodes.all_links.Given as goal

abbrev pub invariant-loop-node : goal.invariant-loop-node
invariant-loop-node l = map (λ v. v.items) l.all.items ≡ map (own l.links) (take l.node-index l.nodes)
