use Rattle.std.proofs.Common.{subst}
use Rattle.ct_revoke.specs.Slices.{SlicesHeap}
use Rattle.ct_revoke.proofs.Heaps.{slices_heap}
use Rattle.ct_revoke.proofs.sweeping.sweep_all.Goals as goal

pub returns-clause-heap : goal.returns-clause-heap
returns-clause-heap g c =
    let old = g.M.Memory.granules c.args.mem.now in
    let new = g.M.Memory.granules c.pass.new.mem in
    subst (λ n. SlicesHeap c.args.ram 0 n old new) c.size-size.ensures (slices_heap c.args.ram 0 c.size-size.result old new c.pass.ensures)
