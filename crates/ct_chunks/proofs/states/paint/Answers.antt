use Rattle.std.proofs.Common.{arith}
use Rattle.ct_chunks.proofs.Painting.{painting_starts, painting_stands, painting_ahead, painting_step, painting_ends}
use Rattle.ct_chunks.proofs.states.paint.Goals as goal

pub loop-left-init : goal.loop-left-init
loop-left-init g c = painting_starts c.args.range.now (g.M.Memory.granules c.args.mem.now) c.requires.settled.tiled

pub overflow_sub-range : goal.overflow_sub-range
overflow_sub-range g c = let k = painting_ahead c.args.range.now (g.M.Memory.granules c.args.mem.now) (g.M.Memory.granules c.loop-left.mem) c.loop-left.left c.loop-left.invariant c.loop-left-test.true in k.most

pub overflow_sub-left : goal.overflow_sub-left
overflow_sub-left g c = let k = painting_step c.args.range.now (g.M.Memory.granules c.args.mem.now) (g.M.Memory.granules c.loop-left.mem) (g.M.Memory.granules c.paint_chunk-left.new.mem) c.loop-left.left c.paint_chunk-left.result c.loop-left.invariant c.loop-left-test.true c.paint_chunk-left.ensures.size c.paint_chunk-left.ensures.tiled c.paint_chunk-left.ensures.chunks c.paint_chunk-left.ensures.keeps c.paint_chunk-left.ensures.elsewhere in k.most

pub paint_chunk-left-requires-clause-tiled : goal.paint_chunk-left-requires-clause-tiled
paint_chunk-left-requires-clause-tiled g c = c.loop-left.invariant.tiled

pub paint_chunk-left-requires-clause-stands : goal.paint_chunk-left-requires-clause-stands
paint_chunk-left-requires-clause-stands g c = painting_stands c.args.range.now (g.M.Memory.granules c.args.mem.now) (g.M.Memory.granules c.loop-left.mem) c.loop-left.left c.loop-left.invariant c.loop-left-test.true

pub loop-left-smaller : goal.loop-left-smaller
loop-left-smaller g c =
    let k = painting_step c.args.range.now (g.M.Memory.granules c.args.mem.now) (g.M.Memory.granules c.loop-left.mem) (g.M.Memory.granules c.paint_chunk-left.new.mem) c.loop-left.left c.paint_chunk-left.result c.loop-left.invariant c.loop-left-test.true c.paint_chunk-left.ensures.size c.paint_chunk-left.ensures.tiled c.paint_chunk-left.ensures.chunks c.paint_chunk-left.ensures.keeps c.paint_chunk-left.ensures.elsewhere in
    let some = k.some in
    let most = k.most in
    omega (arith, some, most)

pub loop-left-preserved : goal.loop-left-preserved
loop-left-preserved g c = (painting_step c.args.range.now (g.M.Memory.granules c.args.mem.now) (g.M.Memory.granules c.loop-left.mem) (g.M.Memory.granules c.paint_chunk-left.new.mem) c.loop-left.left c.paint_chunk-left.result c.loop-left.invariant c.loop-left-test.true c.paint_chunk-left.ensures.size c.paint_chunk-left.ensures.tiled c.paint_chunk-left.ensures.chunks c.paint_chunk-left.ensures.keeps c.paint_chunk-left.ensures.elsewhere).goes_on

pub returns-clause-settled : goal.returns-clause-settled
returns-clause-settled g c = (painting_ends c.args.range.now (g.M.Memory.granules c.args.mem.now) (g.M.Memory.granules c.loop-left.mem) c.loop-left.left c.requires.settled c.loop-left.invariant c.loop-left-test.false).settled

pub returns-clause-chunks : goal.returns-clause-chunks
returns-clause-chunks g c = (painting_ends c.args.range.now (g.M.Memory.granules c.args.mem.now) (g.M.Memory.granules c.loop-left.mem) c.loop-left.left c.requires.settled c.loop-left.invariant c.loop-left-test.false).chunks_are

pub returns-clause-keeps : goal.returns-clause-keeps
returns-clause-keeps g c = (painting_ends c.args.range.now (g.M.Memory.granules c.args.mem.now) (g.M.Memory.granules c.loop-left.mem) c.loop-left.left c.requires.settled c.loop-left.invariant c.loop-left-test.false).keeps

pub returns-clause-heads : goal.returns-clause-heads
returns-clause-heads g c = (painting_ends c.args.range.now (g.M.Memory.granules c.args.mem.now) (g.M.Memory.granules c.loop-left.mem) c.loop-left.left c.requires.settled c.loop-left.invariant c.loop-left-test.false).heads
