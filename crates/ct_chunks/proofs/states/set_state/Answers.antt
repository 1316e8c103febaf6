use Rattle.std.proofs.Common.{◌+◌, ◌*◌, ◌^◌, arith}
use Rattle.law_chunks.proofs.Reading.{sits}
use Rattle.law_chunks.proofs.Carves.{state_done}
use Rattle.ct_chunks.proofs.Painting.{state_keeps, state_elsewhere}
use Rattle.ct_chunks.proofs.states.set_state.Goals as goal

pub overflow_add-size : goal.overflow_add-size
overflow_add-size g c =
    let k = sits c.args.range.now (g.M.Memory.granules c.args.mem.now) c.args.at c.requires.tiled c.requires.stands.stands in
    let small = k.small in
    let size = c.requires.stands.size_is in
    let most = c.requires.most in
    omega (arith, small, size, most)

pub write_head-requires-clause-above : goal.write_head-requires-clause-above
write_head-requires-clause-above g c = (sits _ _ _ c.requires.tiled c.requires.stands.stands).over

pub write_head-requires-clause-even : goal.write_head-requires-clause-even
write_head-requires-clause-even g c = (sits _ _ _ c.requires.tiled c.requires.stands.stands).even

pub write_head-requires-clause-inside : goal.write_head-requires-clause-inside
write_head-requires-clause-inside g c =
    let k = sits _ _ _ c.requires.tiled c.requires.stands.stands in
    omega (arith, k.inside, k.over, k.shape.some)

pub returns-clause-tiled : goal.returns-clause-tiled
returns-clause-tiled g c = (state_done c.args.range.now (g.M.Memory.granules c.args.mem.now) (g.M.Memory.granules c.write_head.new.mem) c.args.at c.args.size c.args.number c.args.state c.requires.tiled c.requires.stands c.requires.some c.requires.most c.write_head.ensures.is).tiled

pub returns-clause-chunks : goal.returns-clause-chunks
returns-clause-chunks g c = (state_done c.args.range.now (g.M.Memory.granules c.args.mem.now) (g.M.Memory.granules c.write_head.new.mem) c.args.at c.args.size c.args.number c.args.state c.requires.tiled c.requires.stands c.requires.some c.requires.most c.write_head.ensures.is).chunks_are

pub returns-clause-keeps : goal.returns-clause-keeps
returns-clause-keeps g c = state_keeps c.args.range.now (g.M.Memory.granules c.args.mem.now) (g.M.Memory.granules c.write_head.new.mem) c.args.at c.args.size c.args.number (c.args.size + c.args.state + c.args.number * 2 ^ 32) c.requires.tiled c.requires.stands c.write_head.ensures.is

pub returns-clause-elsewhere : goal.returns-clause-elsewhere
returns-clause-elsewhere g c = state_elsewhere c.args.range.now (g.M.Memory.granules c.args.mem.now) (g.M.Memory.granules c.write_head.new.mem) c.args.at c.args.size c.args.number (c.args.size + c.args.state + c.args.number * 2 ^ 32) c.requires.tiled c.requires.stands c.write_head.ensures.is
