use Rattle.std.proofs.Common.{◌+◌, ◌-◌, arith, refl}
use Rattle.ct_chunks.proofs.Cuts.{sized, back_none, back_some}
use Rattle.ct_chunks.proofs.carving.cut_back.Goals as goal

pub returns-then-back-eq0 : goal.returns-then-back-eq0
returns-then-back-eq0 g c = back_none c.args.range.now (g.M.Memory.granules c.args.mem.now) (g.M.Memory.granules c.args.mem.now) c.args.gap.now c.args.back c.requires.tiled c.requires.stands c.if-back-eq0.true refl

pub split-requires-clause-stands : goal.split-requires-clause-stands
split-requires-clause-stands g c = c.requires.stands.free_stands

pub split-requires-clause-whole : goal.split-requires-clause-whole
split-requires-clause-whole g c =
    let k = sized c.args.range.now (g.M.Memory.granules c.args.mem.now) c.args.gap.now.at c.args.gap.now.size c.args.gap.now.next c.requires.tiled c.requires.stands.free_stands in
    let whole = k.whole in
    let back = c.requires.whole in
    let fits = c.requires.fits in
    omega (arith, whole, back, fits)

pub split-requires-clause-fits : goal.split-requires-clause-fits
split-requires-clause-fits g c =
    let k = sized c.args.range.now (g.M.Memory.granules c.args.mem.now) c.args.gap.now.at c.args.gap.now.size c.args.gap.now.next c.requires.tiled c.requires.stands.free_stands in
    let whole = k.whole in
    let back = c.requires.whole in
    let fits = c.requires.fits in
    let other = c.if-back-eq0.false in
    omega (arith, whole, back, fits, other)

pub overflow_add-result : goal.overflow_add-result
overflow_add-result g c =
    let k = sized c.args.range.now (g.M.Memory.granules c.args.mem.now) c.args.gap.now.at c.args.gap.now.size c.args.gap.now.next c.requires.tiled c.requires.stands.free_stands in
    let fits = k.fits in
    let small = k.small in
    let back = c.requires.fits in
    let some = k.some in
    let other = c.if-back-eq0.false in
    omega (arith, fits, small, back, some, other)

pub overflow_sub-result : goal.overflow_sub-result
overflow_sub-result g c = let k = sized c.args.range.now (g.M.Memory.granules c.args.mem.now) c.args.gap.now.at c.args.gap.now.size c.args.gap.now.next c.requires.tiled c.requires.stands.free_stands in let low = k.low in omega (arith, low)

pub returns : goal.returns
returns g c = back_some c.args.range.now (g.M.Memory.granules c.args.mem.now) (g.M.Memory.granules c.split.new.mem) c.args.gap.now c.args.back (c.args.gap.now.at + (c.args.gap.now.size - c.args.back) - c.args.range.now.base) c.requires.tiled c.requires.stands c.if-back-eq0.false c.requires.fits c.split.ensures.tiled c.split.ensures.chunks c.split.ensures.keeps c.split.ensures.heads refl
