use Rattle.std.proofs.Common.{not, nat_eq, ap, ◌∙◌}
use Rattle.def_chunks.specs.Heaps.{HeapRow}
use Rattle.ct_heap.proofs.Flushing.{waiting_tells}
use Rattle.ct_heap.proofs.heap.Heap.quarantined.Goals as goal

pub returns : goal.returns
returns c = λ gs l. ap (λ (x : HeapRow). not (nat_eq x.waiting 0)) c.self.view_is ∙ waiting_tells c.args.self.now gs l
