use Rattle.std.proofs.Common.{refl, sym, ap, ◌∙◌}
use Rattle.def_chunks.specs.Heaps.{HeapRow}
use Rattle.ct_heap.proofs.Laying.{lay_wrote, lay_left, lay_room}
use Rattle.ct_heap.proofs.heap.Heap.lay.Goals as goal

pub write_head-requires-clause-above : goal.write_head-requires-clause-above
write_head-requires-clause-above g c = (lay_room c.args.self.now (let x : HeapRow = record { range = c.self.inside.range; accounts = c.self.inside.accounts.items; next = c.self.inside.next; waiting = c.self.inside.waiting; names = c.self.inside.names.items } in x) (g.M.Memory.granules c.args.mem.now) c.self.view_is c.requires.empty (λ z. c.if-self-ne0.true (ap (λ (x : HeapRow). x.range.length) c.self.view_is ∙ z)) c.requires.inside).above

pub write_head-requires-clause-even : goal.write_head-requires-clause-even
write_head-requires-clause-even g c = (lay_room c.args.self.now (let x : HeapRow = record { range = c.self.inside.range; accounts = c.self.inside.accounts.items; next = c.self.inside.next; waiting = c.self.inside.waiting; names = c.self.inside.names.items } in x) (g.M.Memory.granules c.args.mem.now) c.self.view_is c.requires.empty (λ z. c.if-self-ne0.true (ap (λ (x : HeapRow). x.range.length) c.self.view_is ∙ z)) c.requires.inside).even

pub write_head-requires-clause-inside : goal.write_head-requires-clause-inside
write_head-requires-clause-inside g c = (lay_room c.args.self.now (let x : HeapRow = record { range = c.self.inside.range; accounts = c.self.inside.accounts.items; next = c.self.inside.next; waiting = c.self.inside.waiting; names = c.self.inside.names.items } in x) (g.M.Memory.granules c.args.mem.now) c.self.view_is c.requires.empty (λ z. c.if-self-ne0.true (ap (λ (x : HeapRow). x.range.length) c.self.view_is ∙ z)) c.requires.inside).inside

pub returns-then-self-ne0-clause-laid : goal.returns-then-self-ne0-clause-laid
returns-then-self-ne0-clause-laid g c = (lay_wrote c.args.self.now (let x : HeapRow = record { range = c.self.inside.range; accounts = c.self.inside.accounts.items; next = c.self.inside.next; waiting = c.self.inside.waiting; names = c.self.inside.names.items } in x) (let x : HeapRow = record { range = record c.self.inside.range { first = 0 }; accounts = c.self.inside.accounts.items; next = c.self.inside.next; waiting = c.self.inside.waiting; names = c.self.inside.names.items } in x) (g.M.Memory.granules c.args.mem.now) (g.M.Memory.granules c.write_head.new.mem) c.self.view_is c.requires.empty (λ z. c.if-self-ne0.true (ap (λ (x : HeapRow). x.range.length) c.self.view_is ∙ z)) c.requires.inside c.write_head.ensures.is refl).laid

pub returns-then-self-ne0-clause-objects : goal.returns-then-self-ne0-clause-objects
returns-then-self-ne0-clause-objects g c = (lay_wrote c.args.self.now (let x : HeapRow = record { range = c.self.inside.range; accounts = c.self.inside.accounts.items; next = c.self.inside.next; waiting = c.self.inside.waiting; names = c.self.inside.names.items } in x) (let x : HeapRow = record { range = record c.self.inside.range { first = 0 }; accounts = c.self.inside.accounts.items; next = c.self.inside.next; waiting = c.self.inside.waiting; names = c.self.inside.names.items } in x) (g.M.Memory.granules c.args.mem.now) (g.M.Memory.granules c.write_head.new.mem) c.self.view_is c.requires.empty (λ z. c.if-self-ne0.true (ap (λ (x : HeapRow). x.range.length) c.self.view_is ∙ z)) c.requires.inside c.write_head.ensures.is refl).objects

pub returns-then-self-ne0-clause-heads : goal.returns-then-self-ne0-clause-heads
returns-then-self-ne0-clause-heads g c = (lay_wrote c.args.self.now (let x : HeapRow = record { range = c.self.inside.range; accounts = c.self.inside.accounts.items; next = c.self.inside.next; waiting = c.self.inside.waiting; names = c.self.inside.names.items } in x) (let x : HeapRow = record { range = record c.self.inside.range { first = 0 }; accounts = c.self.inside.accounts.items; next = c.self.inside.next; waiting = c.self.inside.waiting; names = c.self.inside.names.items } in x) (g.M.Memory.granules c.args.mem.now) (g.M.Memory.granules c.write_head.new.mem) c.self.view_is c.requires.empty (λ z. c.if-self-ne0.true (ap (λ (x : HeapRow). x.range.length) c.self.view_is ∙ z)) c.requires.inside c.write_head.ensures.is refl).heads

pub returns-then-self-ne0-clause-stays : goal.returns-then-self-ne0-clause-stays
returns-then-self-ne0-clause-stays g c = (lay_wrote c.args.self.now (let x : HeapRow = record { range = c.self.inside.range; accounts = c.self.inside.accounts.items; next = c.self.inside.next; waiting = c.self.inside.waiting; names = c.self.inside.names.items } in x) (let x : HeapRow = record { range = record c.self.inside.range { first = 0 }; accounts = c.self.inside.accounts.items; next = c.self.inside.next; waiting = c.self.inside.waiting; names = c.self.inside.names.items } in x) (g.M.Memory.granules c.args.mem.now) (g.M.Memory.granules c.write_head.new.mem) c.self.view_is c.requires.empty (λ z. c.if-self-ne0.true (ap (λ (x : HeapRow). x.range.length) c.self.view_is ∙ z)) c.requires.inside c.write_head.ensures.is refl).stays

pub returns-then-self-ne0-clause-same : goal.returns-then-self-ne0-clause-same
returns-then-self-ne0-clause-same g c = (lay_wrote c.args.self.now (let x : HeapRow = record { range = c.self.inside.range; accounts = c.self.inside.accounts.items; next = c.self.inside.next; waiting = c.self.inside.waiting; names = c.self.inside.names.items } in x) (let x : HeapRow = record { range = record c.self.inside.range { first = 0 }; accounts = c.self.inside.accounts.items; next = c.self.inside.next; waiting = c.self.inside.waiting; names = c.self.inside.names.items } in x) (g.M.Memory.granules c.args.mem.now) (g.M.Memory.granules c.write_head.new.mem) c.self.view_is c.requires.empty (λ z. c.if-self-ne0.true (ap (λ (x : HeapRow). x.range.length) c.self.view_is ∙ z)) c.requires.inside c.write_head.ensures.is refl).same

pub returns-then-self-ne0-clause-next : goal.returns-then-self-ne0-clause-next
returns-then-self-ne0-clause-next g c = (lay_wrote c.args.self.now (let x : HeapRow = record { range = c.self.inside.range; accounts = c.self.inside.accounts.items; next = c.self.inside.next; waiting = c.self.inside.waiting; names = c.self.inside.names.items } in x) (let x : HeapRow = record { range = record c.self.inside.range { first = 0 }; accounts = c.self.inside.accounts.items; next = c.self.inside.next; waiting = c.self.inside.waiting; names = c.self.inside.names.items } in x) (g.M.Memory.granules c.args.mem.now) (g.M.Memory.granules c.write_head.new.mem) c.self.view_is c.requires.empty (λ z. c.if-self-ne0.true (ap (λ (x : HeapRow). x.range.length) c.self.view_is ∙ z)) c.requires.inside c.write_head.ensures.is refl).next

pub returns-else-self-ne0-clause-laid : goal.returns-else-self-ne0-clause-laid
returns-else-self-ne0-clause-laid g c = (lay_left c.args.self.now c.args.self.now (g.M.Memory.granules c.args.mem.now) refl c.requires.empty (ap (λ (x : HeapRow). x.range.length) (sym c.self.view_is) ∙ c.if-self-ne0.false) c.requires.inside).laid

pub returns-else-self-ne0-clause-objects : goal.returns-else-self-ne0-clause-objects
returns-else-self-ne0-clause-objects g c = (lay_left c.args.self.now c.args.self.now (g.M.Memory.granules c.args.mem.now) refl c.requires.empty (ap (λ (x : HeapRow). x.range.length) (sym c.self.view_is) ∙ c.if-self-ne0.false) c.requires.inside).objects

pub returns-else-self-ne0-clause-heads : goal.returns-else-self-ne0-clause-heads
returns-else-self-ne0-clause-heads g c = (lay_left c.args.self.now c.args.self.now (g.M.Memory.granules c.args.mem.now) refl c.requires.empty (ap (λ (x : HeapRow). x.range.length) (sym c.self.view_is) ∙ c.if-self-ne0.false) c.requires.inside).heads

pub returns-else-self-ne0-clause-stays : goal.returns-else-self-ne0-clause-stays
returns-else-self-ne0-clause-stays g c = (lay_left c.args.self.now c.args.self.now (g.M.Memory.granules c.args.mem.now) refl c.requires.empty (ap (λ (x : HeapRow). x.range.length) (sym c.self.view_is) ∙ c.if-self-ne0.false) c.requires.inside).stays

pub returns-else-self-ne0-clause-same : goal.returns-else-self-ne0-clause-same
returns-else-self-ne0-clause-same g c = (lay_left c.args.self.now c.args.self.now (g.M.Memory.granules c.args.mem.now) refl c.requires.empty (ap (λ (x : HeapRow). x.range.length) (sym c.self.view_is) ∙ c.if-self-ne0.false) c.requires.inside).same

pub returns-else-self-ne0-clause-next : goal.returns-else-self-ne0-clause-next
returns-else-self-ne0-clause-next g c = (lay_left c.args.self.now c.args.self.now (g.M.Memory.granules c.args.mem.now) refl c.requires.empty (ap (λ (x : HeapRow). x.range.length) (sym c.self.view_is) ∙ c.if-self-ne0.false) c.requires.inside).next
