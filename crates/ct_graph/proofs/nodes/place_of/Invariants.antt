use Rattle.std.proofs.Common.{◌≡◌, drop}
use Rattle.std.specs.List.{list_any}
use Rattle.ct_entry.specs.declared.rows.Owner.{Owner}
use Rattle.def_reach.specs.Reach.{same_owner}
use Rattle.ct_graph.proofs.nodes.place_of.Given as goal

abbrev pub invariant-loop-place : goal.invariant-loop-place
invariant-loop-place l = list_any (λ (n : Owner). same_owner n l.owner) (drop l.place l.nodes) ≡ list_any (λ (n : Owner). same_owner n l.owner) l.nodes
