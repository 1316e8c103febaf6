use Rattle.std.proofs.Common.{◌∙◌, arith}
use Rattle.ct_graph.proofs.Holding.{holding_next, size_next}
use Rattle.ct_graph.proofs.links.objects_held.Goals as goal

pub loop-link-preserved : goal.loop-link-preserved
loop-link-preserved c = record {
  size = size_next c.args.links.now c.loop-link.link-index c.loop-link.all.items c.note_object.new.all.items _ c.note_object.ensures ∙ c.loop-link.invariant.size;
  so_far = holding_next c.args.links.now c.loop-link.link-index c.loop-link.all.items c.note_object.new.all.items _ (omega (arith, c.loop-link-test.true)) c.loop-link.invariant.so_far c.note_object.ensures;
}
