use Rattle.std.proofs.Common.{refl, sym, subst}
use Rattle.def_chunks.specs.Heaps.{HeapRow, Laid}
use Rattle.ct_heap.specs.Effects.{Flushes}
use Rattle.ct_heap.proofs.Flushing.{flush_done}
use Rattle.ct_heap.proofs.Answering.{waiting_is, unnamed_tiled}
use Rattle.ct_heap.proofs.heap.Heap.flush.Goals as goal

pub unname-left-requires-clause-settled : goal.unname-left-requires-clause-settled
unname-left-requires-clause-settled g c = (subst (λ (x : HeapRow). Laid x (g.M.Memory.granules c.args.mem.now)) (sym c.self.view_is) c.requires.laid).settled

pub unname-left-requires-clause-slots : goal.unname-left-requires-clause-slots
unname-left-requires-clause-slots g c = (subst (λ (x : HeapRow). Laid x (g.M.Memory.granules c.args.mem.now)) (sym c.self.view_is) c.requires.laid).slots

pub unname-left-requires-clause-named : goal.unname-left-requires-clause-named
unname-left-requires-clause-named g c = (subst (λ (x : HeapRow). Laid x (g.M.Memory.granules c.args.mem.now)) (sym c.self.view_is) c.requires.laid).named

pub unname-left-requires-clause-waiting : goal.unname-left-requires-clause-waiting
unname-left-requires-clause-waiting g c = waiting_is (let x : HeapRow = record { range = c.self.inside.range; accounts = c.self.inside.accounts.items; next = c.self.inside.next; waiting = c.self.inside.waiting; names = c.self.inside.names.items } in x) (g.M.Memory.granules c.args.mem.now) (subst (λ (x : HeapRow). Laid x (g.M.Memory.granules c.args.mem.now)) (sym c.self.view_is) c.requires.laid)

pub join-requires : goal.join-requires
join-requires g c = record { tiled = unnamed_tiled (let x : HeapRow = record { range = c.self.inside.range; accounts = c.self.inside.accounts.items; next = c.self.inside.next; waiting = c.self.inside.waiting; names = c.self.inside.names.items } in x) (g.M.Memory.granules c.args.mem.now) (g.M.Memory.granules c.unname-left.new.mem) c.unname-left.new.names.items c.unname-left.result (subst (λ (x : HeapRow). Laid x (g.M.Memory.granules c.args.mem.now)) (sym c.self.view_is) c.requires.laid) c.unname-left.ensures }

pub returns-clause-laid : goal.returns-clause-laid
returns-clause-laid g c = (flush_done (let x : HeapRow = record { range = c.self.inside.range; accounts = c.self.inside.accounts.items; next = c.self.inside.next; waiting = c.self.inside.waiting; names = c.self.inside.names.items } in x) (let x : HeapRow = record { range = c.join.new.range; accounts = c.self.inside.accounts.items; next = c.self.inside.next; waiting = c.unname-left.result; names = c.unname-left.new.names.items } in x) (g.M.Memory.granules c.args.mem.now) (g.M.Memory.granules c.unname-left.new.mem) (g.M.Memory.granules c.join.new.mem) (subst (λ (x : HeapRow). Laid x (g.M.Memory.granules c.args.mem.now)) (sym c.self.view_is) c.requires.laid) (record { unnames = c.unname-left.ensures; settled = c.join.ensures.settled; chunks_are = c.join.ensures.chunks; keeps = c.join.ensures.keeps; heads = c.join.ensures.heads; range = c.join.ensures.range; accounts = refl; next = refl })).laid

pub returns-clause-flushes : goal.returns-clause-flushes
returns-clause-flushes g c = subst (λ (x : HeapRow). Flushes x (let x : HeapRow = record { range = c.join.new.range; accounts = c.self.inside.accounts.items; next = c.self.inside.next; waiting = c.unname-left.result; names = c.unname-left.new.names.items } in x) (g.M.Memory.granules c.args.mem.now) (g.M.Memory.granules c.join.new.mem)) c.self.view_is (flush_done (let x : HeapRow = record { range = c.self.inside.range; accounts = c.self.inside.accounts.items; next = c.self.inside.next; waiting = c.self.inside.waiting; names = c.self.inside.names.items } in x) (let x : HeapRow = record { range = c.join.new.range; accounts = c.self.inside.accounts.items; next = c.self.inside.next; waiting = c.unname-left.result; names = c.unname-left.new.names.items } in x) (g.M.Memory.granules c.args.mem.now) (g.M.Memory.granules c.unname-left.new.mem) (g.M.Memory.granules c.join.new.mem) (subst (λ (x : HeapRow). Laid x (g.M.Memory.granules c.args.mem.now)) (sym c.self.view_is) c.requires.laid) (record { unnames = c.unname-left.ensures; settled = c.join.ensures.settled; chunks_are = c.join.ensures.chunks; keeps = c.join.ensures.keeps; heads = c.join.ensures.heads; range = c.join.ensures.range; accounts = refl; next = refl })).flushes
