use Rattle.std.proofs.Common.{ℕ, ◌≡◌, ◌-◌, List, length, sym, ap, ◌∙◌, arith}
use Rattle.def_chunks.specs.Heaps.{HeapRow}
use Rattle.ct_heap.specs.Lookups.{owner_of}
use Rattle.ct_heap.specs.Table.{owner_at}
use Rattle.ct_heap.proofs.Finds.{not_begins, begins}
use Rattle.ct_heap.proofs.heap.Heap.owner_of.Goals as goal

pub returns-then-base-ne0 : goal.returns-then-base-ne0
returns-then-base-ne0 c = sym (not_begins c.args.self.now c.args.base (λ m. c.if-base-ne0.true m.0))

pub returns-then-base-low : goal.returns-then-base-low
returns-then-base-low c =
    let low = ap (λ (x : HeapRow). x.range.base) c.self.view_is in
    let under = c.if-base-low.true in
    sym (not_begins c.args.self.now c.args.base (λ m. (let a = m.1 in let b = m.2 in omega (arith, low, under, a, b))))

pub returns-then-offset-self : goal.returns-then-offset-self
returns-then-offset-self c =
    let low = ap (λ (x : HeapRow). x.range.base) c.self.view_is in
    let wide = ap (λ (x : HeapRow). x.range.length) c.self.view_is in
    let past = c.if-offset-self.true in
    sym (not_begins c.args.self.now c.args.base (λ m. (let d = m.3 in omega (arith, low, wide, past, d))))

pub owner-requires : goal.owner-requires
owner-requires c =
    let wide = ap (λ (x : HeapRow). x.range.length) c.self.view_is in
    let slots = ap (λ (x : HeapRow). length x.names) c.self.view_is in
    let slots_is = c.requires.slots in
    let even = c.requires.even in
    let value = ap length c.deref.ensures.value in
    let inside = c.if-offset-self.false in
    omega (arith, wide, slots, slots_is, even, value, inside)

pub returns : goal.returns
returns c =
    let low = ap (λ (x : HeapRow). x.range.base) c.self.view_is in
    let wide = ap (λ (x : HeapRow). x.range.length) c.self.view_is in
    let over = c.if-base-low.false in
    let inside = c.if-offset-self.false in
    let row : HeapRow = (let x : HeapRow = record { range = c.self.inside.range; accounts = c.self.inside.accounts.items; next = c.self.inside.next; waiting = c.self.inside.waiting; names = c.self.inside.names.items } in x) in
    let here : owner_of row c.args.base ≡ owner_at row.names (c.args.base - 8 - row.range.base) = begins row c.args.base c.if-base-ne0.false (omega (arith, over)) inside in
    c.owner.ensures ∙ ap (λ (l : List ℕ). owner_at l (c.args.base - 8 - row.range.base)) c.deref.ensures.value ∙ sym here ∙ ap (λ (x : HeapRow). owner_of x c.args.base) c.self.view_is
