use Rattle.std.proofs.Common.{◌≡◌, take, map}
use Rattle.ct_graph.specs.Links.{link_of}
use Rattle.ct_graph.proofs.links.links.Given as goal

abbrev pub invariant-loop-row : goal.invariant-loop-row
invariant-loop-row l = l.all.items ≡ map (link_of l.entries) (take l.row-index l.entries.rows)
