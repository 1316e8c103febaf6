use Rattle.std.proofs.Common.{◌≡◌, take, length}
use Rattle.ct_graph.specs.Links.{AreHeld}
use Rattle.ct_graph.proofs.links.objects_held.Given as goal

abbrev pub invariant-loop-link : goal.invariant-loop-link
invariant-loop-link l = record {
  size : length l.all.items ≡ l.count;
  so_far : AreHeld (take l.link-index l.links) l.all.items;
}
