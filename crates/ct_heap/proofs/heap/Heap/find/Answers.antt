use Rattle.std.proofs.Common.{ℕ, ◌≡◌, ◌-◌, ◌%◌, Some, sym, ap, ◌∙◌, arith}
use Rattle.def_chunks.specs.Heaps.{HeapRow}
use Rattle.def_chunks.specs.declared.rows.Account.{Account}
use Rattle.def_chunks.specs.declared.rows.Head.{Head}
use Rattle.def_chunks.specs.Chunks.{head_at, head_in}
use Rattle.ct_heap.specs.declared.rows.Found.{Found}
use Rattle.ct_heap.specs.Told.{object_row, found}
use Rattle.ct_heap.proofs.Finds.{known, find_none, other_state, other_end, is_found}
use Rattle.ct_heap.proofs.heap.Heap.find.Goals as goal

pub owner_of-requires-clause-slots : goal.owner_of-requires-clause-slots
owner_of-requires-clause-slots g c = c.requires.laid.slots

pub owner_of-requires-clause-even : goal.owner_of-requires-clause-even
owner_of-requires-clause-even g c = c.requires.laid.settled.tiled.even.2

pub returns-in-None : goal.returns-in-None
returns-in-None g c = sym (find_none c.args.self.now (g.M.Memory.granules c.args.mem.now) c.args.base c.args.top c.requires.laid (sym c.in-None.ensures))

pub overflow_sub-at : goal.overflow_sub-at
overflow_sub-at g c =
    let k = known c.args.self.now (g.M.Memory.granules c.args.mem.now) c.args.base c.in-Some.quota c.requires.laid (sym c.in-Some.ensures) in
    let low = k.low in
    omega (arith, low)

pub read_head-head-requires-clause-above : goal.read_head-head-requires-clause-above
read_head-head-requires-clause-above g c =
    let k = known c.args.self.now (g.M.Memory.granules c.args.mem.now) c.args.base c.in-Some.quota c.requires.laid (sym c.in-Some.ensures) in
    let over = k.over in
    let is = ap (λ (x : HeapRow). x.range.ram) c.self.view_is in
    omega (arith, over, is)

pub read_head-head-requires-clause-even : goal.read_head-head-requires-clause-even
read_head-head-requires-clause-even g c =
    let k = known c.args.self.now (g.M.Memory.granules c.args.mem.now) c.args.base c.in-Some.quota c.requires.laid (sym c.in-Some.ensures) in
    ap (λ (x : HeapRow). (c.args.base - 8 - x.range.ram) % 8) c.self.view_is ∙ k.even

pub read_head-head-requires-clause-inside : goal.read_head-head-requires-clause-inside
read_head-head-requires-clause-inside g c =
    let k = known c.args.self.now (g.M.Memory.granules c.args.mem.now) c.args.base c.in-Some.quota c.requires.laid (sym c.in-Some.ensures) in
    let inside = k.inside in
    let is = ap (λ (x : HeapRow). x.range.ram) c.self.view_is in
    omega (arith, inside, is)

pub returns-then-head-ne-LIVE : goal.returns-then-head-ne-LIVE
returns-then-head-ne-LIVE g c = sym (other_state c.args.self.now (g.M.Memory.granules c.args.mem.now) c.args.base c.args.top c.in-Some.quota c.read_head-head.result c.requires.laid (sym c.in-Some.ensures) (c.read_head-head.ensures ∙ ap (λ (x : HeapRow). head_in (head_at (g.M.Memory.granules c.args.mem.now) x.range.ram (c.args.base - 8))) c.self.view_is) c.if-head-ne-LIVE.true)

pub returns-then-at-head : goal.returns-then-at-head
returns-then-at-head g c = sym (other_end c.args.self.now (g.M.Memory.granules c.args.mem.now) c.args.base c.args.top c.in-Some.quota c.read_head-head.result c.requires.laid (sym c.in-Some.ensures) (c.read_head-head.ensures ∙ ap (λ (x : HeapRow). head_in (head_at (g.M.Memory.granules c.args.mem.now) x.range.ram (c.args.base - 8))) c.self.view_is) c.if-at-head.true)

pub overflow_sub-object : goal.overflow_sub-object
overflow_sub-object g c =
    let k = known c.args.self.now (g.M.Memory.granules c.args.mem.now) c.args.base c.in-Some.quota c.requires.laid (sym c.in-Some.ensures) in
    let size = k.size in
    let is : c.read_head-head.result.size ≡ (head_in (head_at (g.M.Memory.granules c.args.mem.now) c.args.self.now.range.ram (c.args.base - 8))).size = ap (λ (x : Head). x.size) (c.read_head-head.ensures ∙ ap (λ (x : HeapRow). head_in (head_at (g.M.Memory.granules c.args.mem.now) x.range.ram (c.args.base - 8))) c.self.view_is) in
    omega (arith, size, is)

pub account-requires : goal.account-requires
account-requires g c =
    let k = known c.args.self.now (g.M.Memory.granules c.args.mem.now) c.args.base c.in-Some.quota c.requires.laid (sym c.in-Some.ensures) in
    k.quota_in

pub returns : goal.returns
returns g c =
    let made : ℕ → Found = λ n. found (object_row c.read_head-head.result.rest c.args.base (c.read_head-head.result.size - 8) n) c.in-Some.quota in
    ap (λ (a : Account). Some (made a.charged)) c.account.ensures ∙ sym (is_found c.args.self.now (g.M.Memory.granules c.args.mem.now) c.args.base c.args.top c.in-Some.quota c.read_head-head.result c.requires.laid (sym c.in-Some.ensures) (c.read_head-head.ensures ∙ ap (λ (x : HeapRow). head_in (head_at (g.M.Memory.granules c.args.mem.now) x.range.ram (c.args.base - 8))) c.self.view_is) c.if-head-ne-LIVE.false c.if-at-head.false)
