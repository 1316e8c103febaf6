use Rattle.std.proofs.Common.{◌+◌, ◌-◌, ◌*◌, ◌^◌, arith}
use Rattle.def_chunks.specs.Tiles.{chunks}
use Rattle.law_chunks.proofs.Carves.{split_done}
use Rattle.ct_chunks.proofs.Cuts.{sized, split_keeps, split_heads}
use Rattle.ct_chunks.proofs.carving.split.Goals as goal

pub overflow_add-at : goal.overflow_add-at
overflow_add-at g c =
    let k = sized _ _ _ _ _ c.requires.tiled c.requires.stands in
    omega (arith, k.low, k.over, k.even, k.fits, k.small, k.inside, k.whole, k.some)

pub write_head-requires-clause-even : goal.write_head-requires-clause-even
write_head-requires-clause-even g c =
    let k = sized _ _ _ _ _ c.requires.tiled c.requires.stands in
    omega (arith, k.low, k.over, k.even, k.fits, k.small, k.inside, k.whole, k.some)

pub write_head-requires-clause-inside : goal.write_head-requires-clause-inside
write_head-requires-clause-inside g c =
    let k = sized _ _ _ _ _ c.requires.tiled c.requires.stands in
    omega (arith, k.low, k.over, k.even, k.fits, k.small, k.inside, k.whole, k.some)

pub overflow_add-at-2 : goal.overflow_add-at-2
overflow_add-at-2 g c =
    let k = sized _ _ _ _ _ c.requires.tiled c.requires.stands in
    omega (arith, k.low, k.over, k.even, k.fits, k.small, k.inside, k.whole, k.some)

pub write_head-requires-2-clause-even : goal.write_head-requires-2-clause-even
write_head-requires-2-clause-even g c =
    let k = sized _ _ _ _ _ c.requires.tiled c.requires.stands in
    omega (arith, k.low, k.over, k.even, k.fits, k.small, k.inside, k.whole, k.some)

pub write_head-requires-2-clause-inside : goal.write_head-requires-2-clause-inside
write_head-requires-2-clause-inside g c =
    let k = sized _ _ _ _ _ c.requires.tiled c.requires.stands in
    omega (arith, k.low, k.over, k.even, k.fits, k.small, k.inside, k.whole, k.some)

pub returns-clause-tiled : goal.returns-clause-tiled
returns-clause-tiled g c = (split_done c.args.range.now (g.M.Memory.granules c.args.mem.now) (g.M.Memory.granules c.write_head.new.mem) (g.M.Memory.granules c.write_head-2.new.mem) c.args.at c.args.size c.args.first c.args.next c.requires.tiled c.requires.stands c.requires.whole c.requires.some c.requires.fits c.write_head.ensures.is c.write_head-2.ensures.is).tiled

pub returns-clause-chunks : goal.returns-clause-chunks
returns-clause-chunks g c = (split_done c.args.range.now (g.M.Memory.granules c.args.mem.now) (g.M.Memory.granules c.write_head.new.mem) (g.M.Memory.granules c.write_head-2.new.mem) c.args.at c.args.size c.args.first c.args.next c.requires.tiled c.requires.stands c.requires.whole c.requires.some c.requires.fits c.write_head.ensures.is c.write_head-2.ensures.is).chunks_are

pub returns-clause-keeps : goal.returns-clause-keeps
returns-clause-keeps g c = split_keeps c.args.range.now (g.M.Memory.granules c.args.mem.now) (g.M.Memory.granules c.write_head.new.mem) (g.M.Memory.granules c.write_head-2.new.mem) c.args.at c.args.size c.args.first c.args.next (c.args.size - c.args.first + c.args.next * 2 ^ 32) (c.args.first + (c.args.at + c.args.first - c.args.range.now.base) * 2 ^ 32) c.requires.tiled c.requires.stands c.requires.whole c.requires.some c.requires.fits c.write_head.ensures.is c.write_head-2.ensures.is

pub returns-clause-heads : goal.returns-clause-heads
returns-clause-heads g c = split_heads c.args.range.now (g.M.Memory.granules c.args.mem.now) (g.M.Memory.granules c.write_head.new.mem) (g.M.Memory.granules c.write_head-2.new.mem) (chunks c.args.range.now (g.M.Memory.granules c.write_head-2.new.mem)) c.args.at c.args.size c.args.first c.args.next (c.args.size - c.args.first + c.args.next * 2 ^ 32) (c.args.first + (c.args.at + c.args.first - c.args.range.now.base) * 2 ^ 32) c.requires.tiled c.requires.stands c.requires.whole c.write_head.ensures.is c.write_head-2.ensures.is
    (split_done c.args.range.now (g.M.Memory.granules c.args.mem.now) (g.M.Memory.granules c.write_head.new.mem) (g.M.Memory.granules c.write_head-2.new.mem) c.args.at c.args.size c.args.first c.args.next c.requires.tiled c.requires.stands c.requires.whole c.requires.some c.requires.fits c.write_head.ensures.is c.write_head-2.ensures.is).chunks_are
