use Rattle.std.proofs.Common.{◌+◌, refl, sym, arith, subst}
use Rattle.def_chunks.specs.Heaps.{HeapRow, Laid}
use Rattle.ct_heap.specs.Steps.{Freeing, Freed}
use Rattle.ct_heap.proofs.Freeing.{row_in}
use Rattle.ct_heap.proofs.Answering.{freed_ends}
use Rattle.ct_heap.proofs.heap.Heap.quarantine.Goals as goal

pub overflow_sub-at : goal.overflow_sub-at
overflow_sub-at g c =
    let k = row_in _ _ _ _ _ _ _ c.self.view_is c.requires.laid c.requires.found in
    omega (arith, k.low, k.over, k.even, k.extent_even, k.inside, k.fits, k.small)

pub overflow_add-size : goal.overflow_add-size
overflow_add-size g c =
    let k = row_in _ _ _ _ _ _ _ c.self.view_is c.requires.laid c.requires.found in
    omega (arith, k.low, k.over, k.even, k.extent_even, k.inside, k.fits, k.small)

pub set_state-requires-clause-tiled : goal.set_state-requires-clause-tiled
set_state-requires-clause-tiled g c = (subst (λ (x : HeapRow). Laid x (g.M.Memory.granules c.args.mem.now)) (sym c.self.view_is) c.requires.laid).settled.tiled

pub set_state-requires-clause-stands : goal.set_state-requires-clause-stands
set_state-requires-clause-stands g c = (subst (λ (x : HeapRow). Freeing x (g.M.Memory.granules c.args.mem.now) c.args.found.object.number c.args.found.object.base c.args.found.object.length c.args.found.quota) (sym c.self.view_is) c.requires.found).stands

pub overflow_sub-object : goal.overflow_sub-object
overflow_sub-object g c =
    let k = row_in _ _ _ _ _ _ _ c.self.view_is c.requires.laid c.requires.found in
    omega (arith, k.low, k.over, k.even, k.extent_even, k.inside, k.fits, k.small)

pub overflow_sub-object-2 : goal.overflow_sub-object-2
overflow_sub-object-2 g c =
    let k = row_in _ _ _ _ _ _ _ c.self.view_is c.requires.laid c.requires.found in
    omega (arith, k.low, k.over, k.even, k.extent_even, k.inside, k.fits, k.small)

pub overflow_add-object : goal.overflow_add-object
overflow_add-object g c =
    let k = row_in _ _ _ _ _ _ _ c.self.view_is c.requires.laid c.requires.found in
    omega (arith, k.inside, c.size-size.ensures)

pub zero-requires : goal.zero-requires
zero-requires g c =
    let k = row_in _ _ _ _ _ _ _ c.self.view_is c.requires.laid c.requires.found in
    record { start = k.even; finish = omega (arith, k.even, k.extent_even, k.over); order = omega arith; inside = omega (arith, k.inside, c.set_state.ensures.keeps.size) }

pub overflow_sub-at-2 : goal.overflow_sub-at-2
overflow_sub-at-2 g c =
    let k = row_in _ _ _ _ _ _ _ c.self.view_is c.requires.laid c.requires.found in
    omega (arith, k.low, k.over, k.even, k.extent_even, k.inside, k.fits, k.small)

pub overflow_sub-at-3 : goal.overflow_sub-at-3
overflow_sub-at-3 g c =
    let k = row_in _ _ _ _ _ _ _ c.self.view_is c.requires.laid c.requires.found in
    omega (arith, k.low, k.over, k.even, k.extent_even, k.inside, k.fits, k.small)

pub overflow_add-at : goal.overflow_add-at
overflow_add-at g c =
    let k = row_in _ _ _ _ _ _ _ c.self.view_is c.requires.laid c.requires.found in
    omega (arith, k.low, k.over, k.inside, c.size-size.ensures)

pub mark-requires : goal.mark-requires
mark-requires g c =
    let k = row_in _ _ _ _ _ _ _ c.self.view_is c.requires.laid c.requires.found in
    record { start = omega (arith, k.even, k.over); finish = omega (arith, k.even, k.extent_even, k.over); order = omega arith; inside = omega (arith, k.inside, c.set_state.ensures.keeps.size, c.zero.ensures.size, k.over) }

pub discharge-live-requires-clause-quota : goal.discharge-live-requires-clause-quota
discharge-live-requires-clause-quota g c = (row_in _ _ _ _ _ _ _ c.self.view_is c.requires.laid c.requires.found).quota_in

pub discharge-live-requires-clause-fits : goal.discharge-live-requires-clause-fits
discharge-live-requires-clause-fits g c = (row_in _ _ _ _ _ _ _ c.self.view_is c.requires.laid c.requires.found).charged

pub overflow_add-self : goal.overflow_add-self
overflow_add-self g c =
    let k = row_in _ _ _ _ _ _ _ c.self.view_is c.requires.laid c.requires.found in
    omega (arith, k.waiting)

pub returns-clause-laid : goal.returns-clause-laid
returns-clause-laid g c = (freed_ends (let x : HeapRow = record { range = c.self.inside.range; accounts = c.self.inside.accounts.items; next = c.self.inside.next; waiting = c.self.inside.waiting; names = c.self.inside.names.items } in x) (let x : HeapRow = record { range = c.self.inside.range; accounts = c.discharge-live.new.accounts.items; next = c.self.inside.next; waiting = c.self.inside.waiting + 1; names = c.self.inside.names.items } in x) (g.M.Memory.granules c.args.mem.now) (g.M.Memory.granules c.set_state.new.mem) (g.M.Memory.granules c.zero.new.self) (g.M.Memory.granules c.mark.new.self) c.args.found.object.number c.args.found.object.base c.args.found.object.length c.args.found.quota c.discharge-live.result (subst (λ (x : HeapRow). Laid x (g.M.Memory.granules c.args.mem.now)) (sym c.self.view_is) c.requires.laid) (subst (λ (x : HeapRow). Freeing x (g.M.Memory.granules c.args.mem.now) c.args.found.object.number c.args.found.object.base c.args.found.object.length c.args.found.quota) (sym c.self.view_is) c.requires.found) (record { tiled = c.set_state.ensures.tiled; chunks_are = c.set_state.ensures.chunks; keeps = c.set_state.ensures.keeps; elsewhere = c.set_state.ensures.elsewhere; zeroed = c.zero.ensures; marked = c.mark.ensures; range = refl; names = refl; accounts = c.discharge-live.ensures.accounts; next = refl; waiting = refl }) c.discharge-live.ensures.charged).laid

pub returns-clause-freed : goal.returns-clause-freed
returns-clause-freed g c = subst (λ (x : HeapRow). Freed x (let x : HeapRow = record { range = c.self.inside.range; accounts = c.discharge-live.new.accounts.items; next = c.self.inside.next; waiting = c.self.inside.waiting + 1; names = c.self.inside.names.items } in x) (g.M.Memory.granules c.args.mem.now) (g.M.Memory.granules c.mark.new.self) c.args.found.object.number c.args.found.object.base c.args.found.object.length c.args.found.quota c.args.found.object.number c.args.found.object.base c.args.found.object.length c.discharge-live.result) c.self.view_is (freed_ends (let x : HeapRow = record { range = c.self.inside.range; accounts = c.self.inside.accounts.items; next = c.self.inside.next; waiting = c.self.inside.waiting; names = c.self.inside.names.items } in x) (let x : HeapRow = record { range = c.self.inside.range; accounts = c.discharge-live.new.accounts.items; next = c.self.inside.next; waiting = c.self.inside.waiting + 1; names = c.self.inside.names.items } in x) (g.M.Memory.granules c.args.mem.now) (g.M.Memory.granules c.set_state.new.mem) (g.M.Memory.granules c.zero.new.self) (g.M.Memory.granules c.mark.new.self) c.args.found.object.number c.args.found.object.base c.args.found.object.length c.args.found.quota c.discharge-live.result (subst (λ (x : HeapRow). Laid x (g.M.Memory.granules c.args.mem.now)) (sym c.self.view_is) c.requires.laid) (subst (λ (x : HeapRow). Freeing x (g.M.Memory.granules c.args.mem.now) c.args.found.object.number c.args.found.object.base c.args.found.object.length c.args.found.quota) (sym c.self.view_is) c.requires.found) (record { tiled = c.set_state.ensures.tiled; chunks_are = c.set_state.ensures.chunks; keeps = c.set_state.ensures.keeps; elsewhere = c.set_state.ensures.elsewhere; zeroed = c.zero.ensures; marked = c.mark.ensures; range = refl; names = refl; accounts = c.discharge-live.ensures.accounts; next = refl; waiting = refl }) c.discharge-live.ensures.charged).freed
