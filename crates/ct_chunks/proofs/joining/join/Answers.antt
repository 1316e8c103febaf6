use Rattle.std.proofs.Common.{arith, refl}
use Rattle.def_chunks.specs.declared.rows.Range.{Range}
use Rattle.ct_chunks.specs.declared.joining.Last.{Last}
use Rattle.ct_chunks.proofs.Absorbing.{joining_starts, reach, step, ends}
use Rattle.ct_chunks.proofs.joining.join.Goals as goal

pub loop-left-init : goal.loop-left-init
loop-left-init g c =
    let last : Last = record { offset = 4294967295; size = 0 } in
    let start : Range = record c.args.range.now { first = 4294967295 } in
    joining_starts c.args.range.now (g.M.Memory.granules c.args.mem.now) start last c.requires.tiled refl refl

pub visit-size-requires : goal.visit-size-requires
visit-size-requires g c = (reach c.args.range.now (g.M.Memory.granules c.args.mem.now) c.loop-left.range (g.M.Memory.granules c.loop-left.mem) c.loop-left.last c.loop-left.left c.requires.tiled c.loop-left.invariant c.loop-left-test.true).absorbs

pub loop-left-smaller : goal.loop-left-smaller
loop-left-smaller g c =
    let k = reach c.args.range.now (g.M.Memory.granules c.args.mem.now) c.loop-left.range (g.M.Memory.granules c.loop-left.mem) c.loop-left.last c.loop-left.left c.requires.tiled c.loop-left.invariant c.loop-left-test.true in
    let some = k.size_some in
    let most = k.size_most in
    let is = c.visit-size.ensures.size in
    omega (arith, some, most, is)

pub loop-left-preserved : goal.loop-left-preserved
loop-left-preserved g c = step c.args.range.now (g.M.Memory.granules c.args.mem.now) c.loop-left.range c.visit-size.new.range (g.M.Memory.granules c.loop-left.mem) (g.M.Memory.granules c.visit-size.new.mem) c.loop-left.last c.visit-size.result.1 c.loop-left.left c.visit-size.result.0 c.requires.tiled c.loop-left.invariant c.loop-left-test.true c.visit-size.ensures.size c.visit-size.ensures.visits

pub returns-clause-settled : goal.returns-clause-settled
returns-clause-settled g c = (ends c.args.range.now (g.M.Memory.granules c.args.mem.now) c.loop-left.range (g.M.Memory.granules c.loop-left.mem) c.loop-left.last c.loop-left.left c.requires.tiled c.loop-left.invariant c.loop-left-test.false).settled

pub returns-clause-chunks : goal.returns-clause-chunks
returns-clause-chunks g c = (ends c.args.range.now (g.M.Memory.granules c.args.mem.now) c.loop-left.range (g.M.Memory.granules c.loop-left.mem) c.loop-left.last c.loop-left.left c.requires.tiled c.loop-left.invariant c.loop-left-test.false).chunks_are

pub returns-clause-keeps : goal.returns-clause-keeps
returns-clause-keeps g c = (ends c.args.range.now (g.M.Memory.granules c.args.mem.now) c.loop-left.range (g.M.Memory.granules c.loop-left.mem) c.loop-left.last c.loop-left.left c.requires.tiled c.loop-left.invariant c.loop-left-test.false).keeps

pub returns-clause-heads : goal.returns-clause-heads
returns-clause-heads g c = (ends c.args.range.now (g.M.Memory.granules c.args.mem.now) c.loop-left.range (g.M.Memory.granules c.loop-left.mem) c.loop-left.last c.loop-left.left c.requires.tiled c.loop-left.invariant c.loop-left-test.false).heads

pub returns-clause-range : goal.returns-clause-range
returns-clause-range g c = (ends c.args.range.now (g.M.Memory.granules c.args.mem.now) c.loop-left.range (g.M.Memory.granules c.loop-left.mem) c.loop-left.last c.loop-left.left c.requires.tiled c.loop-left.invariant c.loop-left-test.false).range

pub overflow_sub-at : goal.overflow_sub-at
overflow_sub-at g c = let k = reach c.args.range.now (g.M.Memory.granules c.args.mem.now) c.loop-left.range (g.M.Memory.granules c.loop-left.mem) c.loop-left.last c.loop-left.left c.requires.tiled c.loop-left.invariant c.loop-left-test.true in k.most

pub overflow_sub-left : goal.overflow_sub-left
overflow_sub-left g c =
    let k = reach c.args.range.now (g.M.Memory.granules c.args.mem.now) c.loop-left.range (g.M.Memory.granules c.loop-left.mem) c.loop-left.last c.loop-left.left c.requires.tiled c.loop-left.invariant c.loop-left-test.true in
    let most = k.size_most in
    let is = c.visit-size.ensures.size in
    omega (arith, most, is)
