use Rattle.std.proofs.Common.{subst}
use Rattle.ct_revoke.specs.Slices.{SlicesHeap}
use Rattle.ct_revoke.proofs.Heaps.{slices_heap}
use Rattle.ct_revoke.proofs.front.Front.slice.Goals as goal

pub returns-clause-heap : goal.returns-clause-heap
returns-clause-heap g c =
    let old = g.M.Memory.granules c.args.mem.now in
    let new = g.M.Memory.granules c.pass.new.mem in
    subst (λ n. SlicesHeap c.args.ram n c.slice_end-high.result old new) c.at-low.ensures
    (slices_heap c.args.ram c.at-low.result c.slice_end-high.result old new c.pass.ensures)
