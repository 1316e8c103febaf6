use Rattle.std.proofs.Common.{◌≡◌, ◌+◌, ◌-◌, false, sym, ap, ◌∙◌, arith, subst}
use Rattle.def_chunks.specs.declared.rows.Head.{Head}
use Rattle.def_chunks.specs.Chunks.{head_at, head_in}
use Rattle.def_memory.specs.Ranges.{IsMarked}
use Rattle.law_chunks.proofs.Reading.{sits}
use Rattle.ct_chunks.proofs.Painting.{size_told}
use Rattle.ct_heap.proofs.Answering.{stays_named, loses_name}
use Rattle.ct_heap.proofs.table.unname_chunk.Goals as goal

pub returns-then-head-ne-PAINTED-clause-unnames : goal.returns-then-head-ne-PAINTED-clause-unnames
returns-then-head-ne-PAINTED-clause-unnames g c = stays_named c.args.range.now (g.M.Memory.granules c.args.mem.now) c.args.names.now.items c.args.at (head_in (head_at (g.M.Memory.granules c.args.mem.now) c.args.range.now.ram c.args.at)) (λ e. c.if-head-ne-PAINTED.true (ap (λ (x : Head). x.state) c.chunk_head-head.ensures ∙ e))

pub overflow_sub-at : goal.overflow_sub-at
overflow_sub-at g c = (sits _ _ _ c.requires.tiled c.requires.stands).over

pub overflow_sub-at-2 : goal.overflow_sub-at-2
overflow_sub-at-2 g c = (sits _ _ _ c.requires.tiled c.requires.stands).over

pub overflow_sub-at-3 : goal.overflow_sub-at-3
overflow_sub-at-3 g c = (sits _ _ _ c.requires.tiled c.requires.stands).low

pub overflow_add-at : goal.overflow_add-at
overflow_add-at g c =
    let k = sits _ _ _ c.requires.tiled c.requires.stands in
    let size = size_told c.args.range.now (g.M.Memory.granules c.args.mem.now) c.args.at c.chunk_head-head.result c.requires.stands c.requires.tiled c.chunk_head-head.ensures in
    omega (arith, k.low, k.over, k.inside, size, c.size-size.ensures)

pub mark-requires : goal.mark-requires
mark-requires g c =
    let k = sits _ _ _ c.requires.tiled c.requires.stands in
    let size = size_told c.args.range.now (g.M.Memory.granules c.args.mem.now) c.args.at c.chunk_head-head.result c.requires.stands c.requires.tiled c.chunk_head-head.ensures in
    record { start = k.even; finish = omega (arith, k.even, k.shape.whole, size); order = omega arith; inside = omega (arith, k.inside, k.over, size) }

pub returns-clause-unnames : goal.returns-clause-unnames
returns-clause-unnames g c =
    let size : c.chunk_head-head.result.size ≡ (head_in (head_at (g.M.Memory.granules c.args.mem.now) c.args.range.now.ram c.args.at)).size = ap (λ (x : Head). x.size) c.chunk_head-head.ensures in
    loses_name c.args.range.now (g.M.Memory.granules c.args.mem.now) (g.M.Memory.granules c.mark.new.self) c.args.names.now.items c.clear_name.new.names.items c.args.at (head_in (head_at (g.M.Memory.granules c.args.mem.now) c.args.range.now.ram c.args.at)) (ap (λ (x : Head). x.state) (sym c.chunk_head-head.ensures) ∙ c.if-head-ne-PAINTED.false) (subst (λ n. IsMarked (c.args.at - c.args.range.now.ram) (c.args.at - c.args.range.now.ram + n) false (g.M.Memory.granules c.args.mem.now) (g.M.Memory.granules c.mark.new.self)) size c.mark.ensures) c.clear_name.ensures

pub clear_name-requires : goal.clear_name-requires
clear_name-requires g c =
    let k = sits _ _ _ c.requires.tiled c.requires.stands in
    record { inside = omega (arith, k.low, k.fits, k.shape.some, c.requires.slots, c.requires.tiled.even.2) }
