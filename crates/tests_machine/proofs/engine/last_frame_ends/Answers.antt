use Rattle.ct_engine.proofs.Samples.{may_start}
use Rattle.tests_machine.proofs.engine.last_frame_ends.Goals as goal

pub start-requires : goal.start-requires
start-requires g c =
    may_start c.in_ok-memory.memory c.fresh.result c.fresh-2.result c.in_ok-heap.heap c.in_ok-memory.ensures c.fresh.ensures.area c.fresh-2.ensures.area c.fresh.ensures.zero c.fresh-2.ensures.zero c.in_ok-heap.ensures.is c.in_ok-heap.ensures.empty
