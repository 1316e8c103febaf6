use Rattle.std.proofs.Common.{◌≡◌, ◌++◌, drop}
use Rattle.ct_graph.specs.Links.{own}
use Rattle.ct_graph.proofs.links.own_links.Given as goal

abbrev pub invariant-loop-link : goal.invariant-loop-link
invariant-loop-link l = l.all.items ++ own (drop l.link-index l.links) l.owner ≡ own l.links l.owner
