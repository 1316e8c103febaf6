use Rattle.std.proofs.Common.{◌^◌, ◌<◌, inl, inr, sym, ap, arith, subst}
use Rattle.def_chunks.specs.Heaps.{HeapRow}
use Rattle.def_chunks.specs.declared.rows.Range.{Range}
use Rattle.def_words.specs.LeastBounds.{alignment_of}
use Rattle.def_machine.specs.Heap.{length_for}
use Rattle.def_chunks.specs.declared.rows.Account.{Account}
use Rattle.def_chunks.specs.Tiles.{Tiled}
use Rattle.def_chunks.specs.Gaps.{IsGap, NoGap}
use Rattle.def_chunks.specs.Heaps.{IsUnit}
use Rattle.ct_heap.specs.Steps.{Placed}
use Rattle.ct_heap.proofs.Answering.{positive, no_place, placing_of, allocates}
use Rattle.ct_heap.proofs.heap.Heap.allocate.Goals as goal

pub returns-then-size-eq0-clause-answer : goal.returns-then-size-eq0-clause-answer
returns-then-size-eq0-clause-answer g c = inl c.if-size-eq0.true

pub returns-then-size-self-clause-answer : goal.returns-then-size-self-clause-answer
returns-then-size-self-clause-answer g c =
    let is = ap (λ (x : HeapRow). x.range.length) c.self.view_is in
    let over = c.if-size-self.true in
    inr (omega (arith, is, over))

pub length_for-length-requires-clause-some : goal.length_for-length-requires-clause-some
length_for-length-requires-clause-some g c =
    let some = c.if-size-eq0.false in
    positive c.args.size some

pub length_for-length-requires-clause-room : goal.length_for-length-requires-clause-room
length_for-length-requires-clause-room g c =
    let is = ap (λ (x : HeapRow). x.range.length) c.self.view_is in
    let most = c.if-size-self.false in
    let even = c.requires.laid.settled.tiled.even.2 in
    let short = c.requires.laid.settled.tiled.short in
    omega (arith, is, most, even, short)

pub returns-then-account-length-clause-answer : goal.returns-then-account-length-clause-answer
returns-then-account-length-clause-answer g c =
    let is = ap (λ (x : HeapRow). x.range.length) c.self.view_is in
    let most = c.if-size-self.false in
    let over = c.if-account-length.true in
    let extent = c.length_for-length.ensures.is in
    let limit = ap (λ (a : Account). a.limit) c.account-account.ensures in
    let charged = ap (λ (a : Account). a.charged) c.account-account.ensures in
    let charges_are = c.requires.laid.charged c.args.quota in
    (positive c.args.size c.if-size-eq0.false, omega (arith, is, most), omega (arith, over, extent, limit, charged, charges_are))

pub find-requires-clause-tiled : goal.find-requires-clause-tiled
find-requires-clause-tiled g c = subst (λ (r : Range). Tiled r (g.M.Memory.granules c.args.mem.now)) (sym (ap (λ (x : HeapRow). x.range) c.self.view_is)) c.requires.laid.settled.tiled

pub place-requires-clause-fits : goal.place-requires-clause-fits
place-requires-clause-fits g c =
    let extent = c.length_for-length.ensures.is in
    let under = c.if-account-length.false in
    let limit = ap (λ (a : Account). a.limit) c.account-account.ensures in
    let charged = ap (λ (a : Account). a.charged) c.account-account.ensures in
    placing_of c.args.self.now (g.M.Memory.granules c.args.mem.now) c.args.quota c.length_for-length.result c.unit_for.result c.in-Some.gap c.unit_for.ensures.unit (subst (λ (r : Range). IsGap r (g.M.Memory.granules c.args.mem.now) c.unit_for.result c.length_for-length.result c.in-Some.gap) (ap (λ (x : HeapRow). x.range) c.self.view_is) c.in-Some.ensures) c.length_for-length.ensures.whole c.length_for-length.ensures.some (omega (arith, under, limit, charged))

pub place-requires-clause-limit : goal.place-requires-clause-limit
place-requires-clause-limit g c =
    let limit = ap (λ (a : Account). a.limit) c.account-account.ensures in
    let small : c.account-account.result.limit < 2 ^ 32 = omega arith in
    omega (arith, limit, small)

pub returns-in-Some-clause-answer : goal.returns-in-Some-clause-answer
returns-in-Some-clause-answer g c =
    let extent = c.length_for-length.ensures.is in
    let under = c.if-account-length.false in
    let limit = ap (λ (a : Account). a.limit) c.account-account.ensures in
    let charged = ap (λ (a : Account). a.charged) c.account-account.ensures in
    let is = ap (λ (x : HeapRow). x.range.length) c.self.view_is in
    let most = c.if-size-self.false in
    let unit : IsUnit c.unit_for.result (alignment_of (length_for c.args.size)) = subst (λ n. IsUnit c.unit_for.result (alignment_of n)) extent c.unit_for.ensures.unit in
    let gap : IsGap c.args.self.now.range (g.M.Memory.granules c.args.mem.now) c.unit_for.result (length_for c.args.size) c.in-Some.gap = subst (λ n. IsGap c.args.self.now.range (g.M.Memory.granules c.args.mem.now) c.unit_for.result n c.in-Some.gap) extent (subst (λ (r : Range). IsGap r (g.M.Memory.granules c.args.mem.now) c.unit_for.result c.length_for-length.result c.in-Some.gap) (ap (λ (x : HeapRow). x.range) c.self.view_is) c.in-Some.ensures) in
    allocates c.args.self.now c.place.new.self (g.M.Memory.granules c.args.mem.now) (g.M.Memory.granules c.place.new.mem) c.args.quota c.args.size c.unit_for.result c.in-Some.gap c.place.result.number c.place.result.base c.place.result.length c.place.result.live c.requires.laid (positive c.args.size c.if-size-eq0.false) (omega (arith, is, most)) (omega (arith, under, extent, limit, charged)) unit gap
    (subst (λ n. Placed c.args.self.now c.place.new.self (g.M.Memory.granules c.args.mem.now) (g.M.Memory.granules c.place.new.mem) c.args.quota n c.in-Some.gap.base c.place.result.number c.place.result.base c.place.result.length c.place.result.live) extent c.place.ensures.placed)

pub returns-in-None-clause-answer : goal.returns-in-None-clause-answer
returns-in-None-clause-answer g c =
    let extent = c.length_for-length.ensures.is in
    let under = c.if-account-length.false in
    let limit = ap (λ (a : Account). a.limit) c.account-account.ensures in
    let charged = ap (λ (a : Account). a.charged) c.account-account.ensures in
    let charges_are = c.requires.laid.charged c.args.quota in
    let is = ap (λ (x : HeapRow). x.range.length) c.self.view_is in
    let most = c.if-size-self.false in
    let unit : IsUnit c.unit_for.result (alignment_of (length_for c.args.size)) = subst (λ n. IsUnit c.unit_for.result (alignment_of n)) extent c.unit_for.ensures.unit in
    let none : NoGap c.args.self.now.range (g.M.Memory.granules c.args.mem.now) c.unit_for.result (length_for c.args.size) = subst (λ n. NoGap c.args.self.now.range (g.M.Memory.granules c.args.mem.now) c.unit_for.result n) extent (subst (λ (r : Range). NoGap r (g.M.Memory.granules c.args.mem.now) c.unit_for.result c.length_for-length.result) (ap (λ (x : HeapRow). x.range) c.self.view_is) c.in-None.ensures) in
    (positive c.args.size c.if-size-eq0.false, omega (arith, is, most), omega (arith, under, extent, limit, charged, charges_are), no_place c.args.self.now (g.M.Memory.granules c.args.mem.now) c.args.size c.unit_for.result c.requires.laid unit none)
