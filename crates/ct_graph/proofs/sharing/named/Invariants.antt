use Rattle.std.proofs.Common.{◌≡◌, ◌∷◌, take, map}
use Rattle.ct_graph.specs.Nodes.{node}
use Rattle.ct_graph.proofs.sharing.named.Given as goal

abbrev pub invariant-loop-place : goal.invariant-loop-place
invariant-loop-place l = l.owners.items ≡ l.fn.o ∷ map (node l.nodes) (take l.place-index l.places)
