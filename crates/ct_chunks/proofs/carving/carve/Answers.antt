use Rattle.std.proofs.Common.{◌+◌, ◌-◌, sym, subst}
use Rattle.def_chunks.specs.Gaps.{FreeLinked}
use Rattle.ct_chunks.proofs.Cuts.{carving, carve_done, carve_apart, carve_keeps, carve_heads}
use Rattle.ct_chunks.proofs.carving.carve.Goals as goal

pub cut_back-next-requires-clause-tiled : goal.cut_back-next-requires-clause-tiled
cut_back-next-requires-clause-tiled g c = c.requires.settled.tiled

pub cut_back-next-requires-clause-whole : goal.cut_back-next-requires-clause-whole
cut_back-next-requires-clause-whole g c = let n = carving c.args.range.now (g.M.Memory.granules c.args.mem.now) c.args.gap.now c.args.length c.requires.settled.tiled c.requires.stands c.requires.fitting in n.back

pub cut_back-next-requires-clause-fits : goal.cut_back-next-requires-clause-fits
cut_back-next-requires-clause-fits g c = let n = carving c.args.range.now (g.M.Memory.granules c.args.mem.now) c.args.gap.now c.args.length c.requires.settled.tiled c.requires.stands c.requires.fitting in n.back_fits

pub cut_front-before-requires-clause-tiled : goal.cut_front-before-requires-clause-tiled
cut_front-before-requires-clause-tiled g c = c.cut_back-next.ensures.tiled

pub cut_front-before-requires-clause-stands : goal.cut_front-before-requires-clause-stands
cut_front-before-requires-clause-stands g c = c.cut_back-next.ensures.linked

pub cut_front-before-requires-clause-whole : goal.cut_front-before-requires-clause-whole
cut_front-before-requires-clause-whole g c = let n = carving c.args.range.now (g.M.Memory.granules c.args.mem.now) c.args.gap.now c.args.length c.requires.settled.tiled c.requires.stands c.requires.fitting in n.front

pub cut_front-before-requires-clause-fits : goal.cut_front-before-requires-clause-fits
cut_front-before-requires-clause-fits g c = let n = carving c.args.range.now (g.M.Memory.granules c.args.mem.now) c.args.gap.now c.args.length c.requires.settled.tiled c.requires.stands c.requires.fitting in n.front_fits

pub take-requires-clause-tiled : goal.take-requires-clause-tiled
take-requires-clause-tiled g c = c.cut_front-before.ensures.tiled

pub take-requires-clause-stands : goal.take-requires-clause-stands
take-requires-clause-stands g c =
    let n = carving c.args.range.now (g.M.Memory.granules c.args.mem.now) c.args.gap.now c.args.length c.requires.settled.tiled c.requires.stands c.requires.fitting in
    let used = n.used in
    subst (λ m. FreeLinked c.args.range.now (g.M.Memory.granules c.cut_front-before.new.mem) (c.args.gap.now.at + (c.args.gap.now.base - 8 - c.args.gap.now.at)) m c.cut_back-next.result c.cut_front-before.result.0 c.cut_front-before.result.1) (sym used) c.cut_front-before.ensures.linked

pub returns-clause-settled : goal.returns-clause-settled
returns-clause-settled g c = carve_apart c.args.range.now c.take.new.range (g.M.Memory.granules c.args.mem.now) (g.M.Memory.granules c.take.new.mem) c.args.gap.now (c.args.gap.now.base - 8 - c.args.gap.now.at) c.args.length c.args.number c.requires.settled c.requires.stands.free_stands c.take.ensures.tiled (carve_done c.args.range.now c.take.new.range (g.M.Memory.granules c.args.mem.now) (g.M.Memory.granules c.cut_back-next.new.mem) (g.M.Memory.granules c.cut_front-before.new.mem) (g.M.Memory.granules c.take.new.mem) c.args.gap.now c.args.length c.args.number c.cut_back-next.result c.cut_front-before.result.0 c.cut_front-before.result.1 c.requires.settled c.requires.stands c.requires.fitting c.cut_back-next.ensures c.cut_front-before.ensures c.take.ensures.chunks)

pub returns-clause-chunks : goal.returns-clause-chunks
returns-clause-chunks g c = carve_done c.args.range.now c.take.new.range (g.M.Memory.granules c.args.mem.now) (g.M.Memory.granules c.cut_back-next.new.mem) (g.M.Memory.granules c.cut_front-before.new.mem) (g.M.Memory.granules c.take.new.mem) c.args.gap.now c.args.length c.args.number c.cut_back-next.result c.cut_front-before.result.0 c.cut_front-before.result.1 c.requires.settled c.requires.stands c.requires.fitting c.cut_back-next.ensures c.cut_front-before.ensures c.take.ensures.chunks

pub returns-clause-keeps : goal.returns-clause-keeps
returns-clause-keeps g c = carve_keeps c.args.range.now (g.M.Memory.granules c.args.mem.now) (g.M.Memory.granules c.cut_back-next.new.mem) (g.M.Memory.granules c.cut_front-before.new.mem) (g.M.Memory.granules c.take.new.mem) c.args.gap.now c.args.length c.cut_back-next.result c.cut_front-before.result.0 c.cut_front-before.result.1 c.requires.settled c.requires.stands c.requires.fitting c.cut_back-next.ensures c.cut_front-before.ensures c.take.ensures.keeps

pub returns-clause-heads : goal.returns-clause-heads
returns-clause-heads g c = carve_heads c.args.range.now c.take.new.range (g.M.Memory.granules c.args.mem.now) (g.M.Memory.granules c.cut_back-next.new.mem) (g.M.Memory.granules c.cut_front-before.new.mem) (g.M.Memory.granules c.take.new.mem) c.args.gap.now c.args.length c.args.number c.cut_back-next.result c.cut_front-before.result.0 c.cut_front-before.result.1 c.requires.settled c.requires.stands c.requires.fitting c.cut_back-next.ensures c.cut_front-before.ensures c.take.ensures.chunks c.take.ensures.heads
