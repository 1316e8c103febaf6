use Rattle.std.proofs.Common.{◌+◌, ◌^◌, ◌<◌, ◌≤◌, length, refl, sym, arith, subst}
use Rattle.def_chunks.specs.Heaps.{HeapRow, account, Laid}
use Rattle.ct_heap.specs.Steps.{Placing, Placed}
use Rattle.ct_heap.proofs.Answering.{reach, placed_ends}
use Rattle.ct_heap.proofs.heap.Heap.place.Goals as goal

pub overflow_sub-start : goal.overflow_sub-start
overflow_sub-start g c =
    let k = reach (let x : HeapRow = record { range = c.self.inside.range; accounts = c.self.inside.accounts.items; next = c.self.inside.next; waiting = c.self.inside.waiting; names = c.self.inside.names.items } in x) (g.M.Memory.granules c.args.mem.now) c.args.quota c.args.bytes c.args.gap (subst (λ (x : HeapRow). Laid x (g.M.Memory.granules c.args.mem.now)) (sym c.self.view_is) c.requires.laid) (subst (λ (x : HeapRow). Placing x (g.M.Memory.granules c.args.mem.now) c.args.quota c.args.bytes c.args.gap) (sym c.self.view_is) c.requires.fits) in
    k.over

pub overflow_sub-offset : goal.overflow_sub-offset
overflow_sub-offset g c =
    let k = reach (let x : HeapRow = record { range = c.self.inside.range; accounts = c.self.inside.accounts.items; next = c.self.inside.next; waiting = c.self.inside.waiting; names = c.self.inside.names.items } in x) (g.M.Memory.granules c.args.mem.now) c.args.quota c.args.bytes c.args.gap (subst (λ (x : HeapRow). Laid x (g.M.Memory.granules c.args.mem.now)) (sym c.self.view_is) c.requires.laid) (subst (λ (x : HeapRow). Placing x (g.M.Memory.granules c.args.mem.now) c.args.quota c.args.bytes c.args.gap) (sym c.self.view_is) c.requires.fits) in
    let low = k.below in
    omega (arith, low)

pub overflow_sub-offset-2 : goal.overflow_sub-offset-2
overflow_sub-offset-2 g c =
    let k = reach (let x : HeapRow = record { range = c.self.inside.range; accounts = c.self.inside.accounts.items; next = c.self.inside.next; waiting = c.self.inside.waiting; names = c.self.inside.names.items } in x) (g.M.Memory.granules c.args.mem.now) c.args.quota c.args.bytes c.args.gap (subst (λ (x : HeapRow). Laid x (g.M.Memory.granules c.args.mem.now)) (sym c.self.view_is) c.requires.laid) (subst (λ (x : HeapRow). Placing x (g.M.Memory.granules c.args.mem.now) c.args.quota c.args.bytes c.args.gap) (sym c.self.view_is) c.requires.fits) in
    let low = k.below in
    omega (arith, low)

pub carve-requires-clause-settled : goal.carve-requires-clause-settled
carve-requires-clause-settled g c = ((subst (λ (x : HeapRow). Laid x (g.M.Memory.granules c.args.mem.now)) (sym c.self.view_is) c.requires.laid)).settled

pub carve-requires-clause-stands : goal.carve-requires-clause-stands
carve-requires-clause-stands g c = ((subst (λ (x : HeapRow). Placing x (g.M.Memory.granules c.args.mem.now) c.args.quota c.args.bytes c.args.gap) (sym c.self.view_is) c.requires.fits)).linked

pub carve-requires-clause-fitting : goal.carve-requires-clause-fitting
carve-requires-clause-fitting g c = ((subst (λ (x : HeapRow). Placing x (g.M.Memory.granules c.args.mem.now) c.args.quota c.args.bytes c.args.gap) (sym c.self.view_is) c.requires.fits)).fitting

pub overflow_add-start : goal.overflow_add-start
overflow_add-start g c =
    let k = reach (let x : HeapRow = record { range = c.self.inside.range; accounts = c.self.inside.accounts.items; next = c.self.inside.next; waiting = c.self.inside.waiting; names = c.self.inside.names.items } in x) (g.M.Memory.granules c.args.mem.now) c.args.quota c.args.bytes c.args.gap (subst (λ (x : HeapRow). Laid x (g.M.Memory.granules c.args.mem.now)) (sym c.self.view_is) c.requires.laid) (subst (λ (x : HeapRow). Placing x (g.M.Memory.granules c.args.mem.now) c.args.quota c.args.bytes c.args.gap) (sym c.self.view_is) c.requires.fits) in
    let inside = k.inside in
    let small = c.size-size.ensures in
    omega (arith, inside, small)

pub zero-requires : goal.zero-requires
zero-requires g c =
    let k = reach (let x : HeapRow = record { range = c.self.inside.range; accounts = c.self.inside.accounts.items; next = c.self.inside.next; waiting = c.self.inside.waiting; names = c.self.inside.names.items } in x) (g.M.Memory.granules c.args.mem.now) c.args.quota c.args.bytes c.args.gap (subst (λ (x : HeapRow). Laid x (g.M.Memory.granules c.args.mem.now)) (sym c.self.view_is) c.requires.laid) (subst (λ (x : HeapRow). Placing x (g.M.Memory.granules c.args.mem.now) c.args.quota c.args.bytes c.args.gap) (sym c.self.view_is) c.requires.fits) in
    let inside = k.inside in
    let size = c.carve.ensures.keeps.size in
    record { start = k.start; finish = k.finish; order = omega arith; inside = omega (arith, inside, size) }

pub name_chunk-requires-clause-quota : goal.name_chunk-requires-clause-quota
name_chunk-requires-clause-quota g c =
    let few = (subst (λ (x : HeapRow). Laid x (g.M.Memory.granules c.args.mem.now)) (sym c.self.view_is) c.requires.laid).few in
    let quota = (subst (λ (x : HeapRow). c.args.quota < length x.accounts) (sym c.self.view_is) c.requires.quota) in
    omega (arith, few, quota)

pub name_chunk-requires-clause-inside : goal.name_chunk-requires-clause-inside
name_chunk-requires-clause-inside g c =
    let k = reach (let x : HeapRow = record { range = c.self.inside.range; accounts = c.self.inside.accounts.items; next = c.self.inside.next; waiting = c.self.inside.waiting; names = c.self.inside.names.items } in x) (g.M.Memory.granules c.args.mem.now) c.args.quota c.args.bytes c.args.gap (subst (λ (x : HeapRow). Laid x (g.M.Memory.granules c.args.mem.now)) (sym c.self.view_is) c.requires.laid) (subst (λ (x : HeapRow). Placing x (g.M.Memory.granules c.args.mem.now) c.args.quota c.args.bytes c.args.gap) (sym c.self.view_is) c.requires.fits) in
    k.slot

pub overflow_add-bytes : goal.overflow_add-bytes
overflow_add-bytes g c =
    let k = reach (let x : HeapRow = record { range = c.self.inside.range; accounts = c.self.inside.accounts.items; next = c.self.inside.next; waiting = c.self.inside.waiting; names = c.self.inside.names.items } in x) (g.M.Memory.granules c.args.mem.now) c.args.quota c.args.bytes c.args.gap (subst (λ (x : HeapRow). Laid x (g.M.Memory.granules c.args.mem.now)) (sym c.self.view_is) c.requires.laid) (subst (λ (x : HeapRow). Placing x (g.M.Memory.granules c.args.mem.now) c.args.quota c.args.bytes c.args.gap) (sym c.self.view_is) c.requires.fits) in
    let small = k.small in
    omega (arith, small)

pub charge-live-requires-clause-quota : goal.charge-live-requires-clause-quota
charge-live-requires-clause-quota g c = (subst (λ (x : HeapRow). c.args.quota < length x.accounts) (sym c.self.view_is) c.requires.quota)

pub charge-live-requires-clause-fits : goal.charge-live-requires-clause-fits
charge-live-requires-clause-fits g c =
    let p = (subst (λ (x : HeapRow). Placing x (g.M.Memory.granules c.args.mem.now) c.args.quota c.args.bytes c.args.gap) (sym c.self.view_is) c.requires.fits) in
    let within = p.within in
    let limit = subst (λ (x : HeapRow). (account x c.args.quota).limit < 2 ^ 32) (sym c.self.view_is) c.requires.limit in
    omega (arith, within, limit)

pub overflow_add-self : goal.overflow_add-self
overflow_add-self g c =
    let few = (subst (λ (x : HeapRow). x.next ≤ 4000000000) (sym c.self.view_is) c.requires.few) in
    omega (arith, few)

pub returns-clause-laid : goal.returns-clause-laid
returns-clause-laid g c = (placed_ends (let x : HeapRow = record { range = c.self.inside.range; accounts = c.self.inside.accounts.items; next = c.self.inside.next; waiting = c.self.inside.waiting; names = c.self.inside.names.items } in x) (let x : HeapRow = record { range = c.carve.new.range; accounts = c.charge-live.new.accounts.items; next = c.self.inside.next + 1; waiting = c.self.inside.waiting; names = c.name_chunk.new.names.items } in x) (g.M.Memory.granules c.args.mem.now) (g.M.Memory.granules c.carve.new.mem) (g.M.Memory.granules c.zero.new.self) c.args.quota c.args.bytes c.args.gap c.charge-live.result (subst (λ (x : HeapRow). Laid x (g.M.Memory.granules c.args.mem.now)) (sym c.self.view_is) c.requires.laid) (subst (λ (x : HeapRow). c.args.quota < length x.accounts) (sym c.self.view_is) c.requires.quota) (subst (λ (x : HeapRow). x.next ≤ 4000000000) (sym c.self.view_is) c.requires.few) (subst (λ (x : HeapRow). Placing x (g.M.Memory.granules c.args.mem.now) c.args.quota c.args.bytes c.args.gap) (sym c.self.view_is) c.requires.fits) (record { settled = c.carve.ensures.settled; chunks_are = c.carve.ensures.chunks; keeps = c.carve.ensures.keeps; heads = c.carve.ensures.heads; range = c.carve.ensures.range; zeroed = c.zero.ensures; names = c.name_chunk.ensures; accounts = c.charge-live.ensures.accounts; next = refl; waiting = refl }) c.charge-live.ensures.charged).laid

pub returns-clause-placed : goal.returns-clause-placed
returns-clause-placed g c = subst (λ (x : HeapRow). Placed x (let x : HeapRow = record { range = c.carve.new.range; accounts = c.charge-live.new.accounts.items; next = c.self.inside.next + 1; waiting = c.self.inside.waiting; names = c.name_chunk.new.names.items } in x) (g.M.Memory.granules c.args.mem.now) (g.M.Memory.granules c.zero.new.self) c.args.quota c.args.bytes c.args.gap.base c.self.inside.next c.args.gap.base c.args.bytes c.charge-live.result) c.self.view_is (placed_ends (let x : HeapRow = record { range = c.self.inside.range; accounts = c.self.inside.accounts.items; next = c.self.inside.next; waiting = c.self.inside.waiting; names = c.self.inside.names.items } in x) (let x : HeapRow = record { range = c.carve.new.range; accounts = c.charge-live.new.accounts.items; next = c.self.inside.next + 1; waiting = c.self.inside.waiting; names = c.name_chunk.new.names.items } in x) (g.M.Memory.granules c.args.mem.now) (g.M.Memory.granules c.carve.new.mem) (g.M.Memory.granules c.zero.new.self) c.args.quota c.args.bytes c.args.gap c.charge-live.result (subst (λ (x : HeapRow). Laid x (g.M.Memory.granules c.args.mem.now)) (sym c.self.view_is) c.requires.laid) (subst (λ (x : HeapRow). c.args.quota < length x.accounts) (sym c.self.view_is) c.requires.quota) (subst (λ (x : HeapRow). x.next ≤ 4000000000) (sym c.self.view_is) c.requires.few) (subst (λ (x : HeapRow). Placing x (g.M.Memory.granules c.args.mem.now) c.args.quota c.args.bytes c.args.gap) (sym c.self.view_is) c.requires.fits) (record { settled = c.carve.ensures.settled; chunks_are = c.carve.ensures.chunks; keeps = c.carve.ensures.keeps; heads = c.carve.ensures.heads; range = c.carve.ensures.range; zeroed = c.zero.ensures; names = c.name_chunk.ensures; accounts = c.charge-live.ensures.accounts; next = refl; waiting = refl }) c.charge-live.ensures.charged).placed
