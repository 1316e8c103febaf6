use Rattle.std.proofs.Common.{◌-◌, arith, refl}
use Rattle.ct_chunks.proofs.Cuts.{sized, front_none, front_some}
use Rattle.ct_chunks.proofs.carving.cut_front.Goals as goal

pub returns-then-front-eq0 : goal.returns-then-front-eq0
returns-then-front-eq0 g c = front_none c.args.range.now (g.M.Memory.granules c.args.mem.now) (g.M.Memory.granules c.args.mem.now) c.args.gap.now c.args.size c.args.next c.args.front c.requires.tiled c.requires.stands c.if-front-eq0.true refl

pub split-requires-clause-stands : goal.split-requires-clause-stands
split-requires-clause-stands g c = c.requires.stands.free_stands

pub overflow_sub-result : goal.overflow_sub-result
overflow_sub-result g c = let k = sized c.args.range.now (g.M.Memory.granules c.args.mem.now) c.args.gap.now.at c.args.size c.args.next c.requires.tiled c.requires.stands.free_stands in let low = k.low in omega (arith, low)

pub returns : goal.returns
returns g c = front_some c.args.range.now (g.M.Memory.granules c.args.mem.now) (g.M.Memory.granules c.split.new.mem) c.args.gap.now c.args.size c.args.next c.args.front (c.args.gap.now.at - c.args.range.now.base) c.args.front c.requires.tiled c.requires.stands c.if-front-eq0.false c.requires.fits c.split.ensures.tiled c.split.ensures.chunks c.split.ensures.keeps c.split.ensures.heads refl refl
