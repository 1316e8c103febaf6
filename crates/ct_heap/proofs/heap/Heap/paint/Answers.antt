use Rattle.std.proofs.Common.{sym, ap, ◌∙◌, subst}
use Rattle.def_chunks.specs.Heaps.{HeapRow, Laid}
use Rattle.ct_heap.specs.Effects.{Paints}
use Rattle.ct_heap.proofs.Flushing.{paints_none, paint_done}
use Rattle.ct_heap.proofs.Answering.{none_is, some_is}
use Rattle.ct_heap.proofs.heap.Heap.paint.Goals as goal

pub returns-then-self-eq0-clause-answer : goal.returns-then-self-eq0-clause-answer
returns-then-self-eq0-clause-answer g c = sym (none_is c.args.self.now (g.M.Memory.granules c.args.mem.now) c.requires.laid (ap (λ (x : HeapRow). x.waiting) (sym c.self.view_is) ∙ c.if-self-eq0.true))

pub returns-then-self-eq0-clause-paints : goal.returns-then-self-eq0-clause-paints
returns-then-self-eq0-clause-paints g c = paints_none c.args.self.now (g.M.Memory.granules c.args.mem.now) c.requires.laid (ap (λ (x : HeapRow). x.waiting) (sym c.self.view_is) ∙ c.if-self-eq0.true)

pub paint-requires : goal.paint-requires
paint-requires g c = record { settled = (subst (λ (x : HeapRow). Laid x (g.M.Memory.granules c.args.mem.now)) (sym c.self.view_is) c.requires.laid).settled }

pub returns-clause-laid : goal.returns-clause-laid
returns-clause-laid g c = subst (λ (x : HeapRow). Laid x (g.M.Memory.granules c.paint.new.mem)) c.self.view_is (paint_done (let x : HeapRow = record { range = c.self.inside.range; accounts = c.self.inside.accounts.items; next = c.self.inside.next; waiting = c.self.inside.waiting; names = c.self.inside.names.items } in x) (g.M.Memory.granules c.args.mem.now) (g.M.Memory.granules c.paint.new.mem) (subst (λ (x : HeapRow). Laid x (g.M.Memory.granules c.args.mem.now)) (sym c.self.view_is) c.requires.laid) c.paint.ensures.settled c.paint.ensures.chunks c.paint.ensures.keeps c.paint.ensures.heads).laid

pub returns-clause-answer : goal.returns-clause-answer
returns-clause-answer g c = sym (some_is c.args.self.now (g.M.Memory.granules c.args.mem.now) c.requires.laid (λ z. c.if-self-eq0.false (ap (λ (x : HeapRow). x.waiting) c.self.view_is ∙ z)))

pub returns-clause-paints : goal.returns-clause-paints
returns-clause-paints g c = subst (λ (x : HeapRow). Paints x (g.M.Memory.granules c.args.mem.now) (g.M.Memory.granules c.paint.new.mem)) c.self.view_is (paint_done (let x : HeapRow = record { range = c.self.inside.range; accounts = c.self.inside.accounts.items; next = c.self.inside.next; waiting = c.self.inside.waiting; names = c.self.inside.names.items } in x) (g.M.Memory.granules c.args.mem.now) (g.M.Memory.granules c.paint.new.mem) (subst (λ (x : HeapRow). Laid x (g.M.Memory.granules c.args.mem.now)) (sym c.self.view_is) c.requires.laid) c.paint.ensures.settled c.paint.ensures.chunks c.paint.ensures.keeps c.paint.ensures.heads).paints
