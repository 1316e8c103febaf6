use Rattle.std.proofs.Common.{◌+◌, ◌-◌, ◌*◌, ◌^◌, arith, length, refl, ap}
use Rattle.def_chunks.specs.declared.rows.Range.{Range}
use Rattle.def_chunks.specs.Tiles.{chunks}
use Rattle.law_chunks.proofs.Carves.{take_done}
use Rattle.ct_chunks.proofs.Cuts.{sized, take_keeps, take_heads, linkable}
use Rattle.ct_chunks.proofs.carving.take.Goals as goal

pub relink-first-requires : goal.relink-first-requires
relink-first-requires g c = record { place = linkable c.args.range.now (g.M.Memory.granules c.args.mem.now) c.args.at c.args.size c.args.next c.args.before c.args.before_size c.requires.tiled c.requires.stands }

pub overflow_add-size : goal.overflow_add-size
overflow_add-size g c =
    let k = sized _ _ _ _ _ c.requires.tiled c.requires.stands.free_stands in
    omega (arith, k.low, k.over, k.even, k.fits, k.small, k.inside, k.whole, k.some)

pub write_head-requires-clause-even : goal.write_head-requires-clause-even
write_head-requires-clause-even g c =
    let k = sized _ _ _ _ _ c.requires.tiled c.requires.stands.free_stands in
    omega (arith, k.low, k.over, k.even, k.fits, k.small, k.inside, k.whole, k.some)

pub write_head-requires-clause-inside : goal.write_head-requires-clause-inside
write_head-requires-clause-inside g c =
    let k = sized _ _ _ _ _ c.requires.tiled c.requires.stands.free_stands in
    omega (arith, k.low, k.over, k.even, k.fits, k.small, k.inside, k.whole, k.some)

pub returns-clause-tiled : goal.returns-clause-tiled
returns-clause-tiled g c = (take_done c.args.range.now (let x : Range = record { ram = c.args.range.now.ram; base = c.args.range.now.base; length = c.args.range.now.length; first = c.relink-first.result } in x) (g.M.Memory.granules c.args.mem.now) (g.M.Memory.granules c.relink-first.new.mem) (g.M.Memory.granules c.write_head.new.mem) c.args.at c.args.size c.args.number c.args.before c.args.before_size c.args.next c.requires.tiled c.requires.stands c.requires.wide (omega arith) c.relink-first.ensures.is c.write_head.ensures.is (ap (λ n. let x : Range = record { ram = c.args.range.now.ram; base = c.args.range.now.base; length = c.args.range.now.length; first = n } in x) c.relink-first.ensures.first)).tiled

pub returns-clause-chunks : goal.returns-clause-chunks
returns-clause-chunks g c = (take_done c.args.range.now (let x : Range = record { ram = c.args.range.now.ram; base = c.args.range.now.base; length = c.args.range.now.length; first = c.relink-first.result } in x) (g.M.Memory.granules c.args.mem.now) (g.M.Memory.granules c.relink-first.new.mem) (g.M.Memory.granules c.write_head.new.mem) c.args.at c.args.size c.args.number c.args.before c.args.before_size c.args.next c.requires.tiled c.requires.stands c.requires.wide (omega arith) c.relink-first.ensures.is c.write_head.ensures.is (ap (λ n. let x : Range = record { ram = c.args.range.now.ram; base = c.args.range.now.base; length = c.args.range.now.length; first = n } in x) c.relink-first.ensures.first)).chunks_are

pub returns-clause-keeps : goal.returns-clause-keeps
returns-clause-keeps g c = take_keeps c.args.range.now (g.M.Memory.granules c.args.mem.now) (g.M.Memory.granules c.relink-first.new.mem) (g.M.Memory.granules c.write_head.new.mem) c.args.at c.args.size c.args.next c.args.before c.args.before_size (c.args.size + 1 + c.args.number * 2 ^ 32) c.requires.tiled c.requires.stands c.relink-first.ensures.is c.write_head.ensures.is

pub returns-clause-heads : goal.returns-clause-heads
returns-clause-heads g c = take_heads c.args.range.now (g.M.Memory.granules c.args.mem.now) (g.M.Memory.granules c.relink-first.new.mem) (g.M.Memory.granules c.write_head.new.mem) (chunks (let x : Range = record { ram = c.args.range.now.ram; base = c.args.range.now.base; length = c.args.range.now.length; first = c.relink-first.result } in x) (g.M.Memory.granules c.write_head.new.mem)) c.args.at c.args.size c.args.next c.args.before c.args.before_size c.args.number (c.args.size + 1 + c.args.number * 2 ^ 32) c.requires.tiled c.requires.stands c.relink-first.ensures.is c.write_head.ensures.is
    (take_done c.args.range.now (let x : Range = record { ram = c.args.range.now.ram; base = c.args.range.now.base; length = c.args.range.now.length; first = c.relink-first.result } in x) (g.M.Memory.granules c.args.mem.now) (g.M.Memory.granules c.relink-first.new.mem) (g.M.Memory.granules c.write_head.new.mem) c.args.at c.args.size c.args.number c.args.before c.args.before_size c.args.next c.requires.tiled c.requires.stands c.requires.wide (omega arith) c.relink-first.ensures.is c.write_head.ensures.is (ap (λ n. let x : Range = record { ram = c.args.range.now.ram; base = c.args.range.now.base; length = c.args.range.now.length; first = n } in x) c.relink-first.ensures.first)).chunks_are
