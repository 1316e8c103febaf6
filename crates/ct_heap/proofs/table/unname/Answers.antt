use Rattle.std.proofs.Common.{arith, ◌∙◌}
use Rattle.ct_heap.proofs.Unnaming.{unnaming_starts, unnaming_stands, unnaming_ahead, unnaming_step, unnaming_ends}
use Rattle.ct_heap.proofs.table.unname.Goals as goal

pub loop-left-init : goal.loop-left-init
loop-left-init g c = unnaming_starts c.args.range.now (g.M.Memory.granules c.args.mem.now) c.args.names.now.items c.args.waiting c.requires.settled c.requires.named c.requires.waiting

pub overflow_sub-at : goal.overflow_sub-at
overflow_sub-at g c = (unnaming_ahead c.args.range.now (g.M.Memory.granules c.args.mem.now) (g.M.Memory.granules c.loop-left.mem) c.args.names.now.items c.loop-left.names.items c.loop-left.waiting c.loop-left.left c.loop-left.invariant c.loop-left-test.true).most

pub unname_chunk-size-requires-clause-tiled : goal.unname_chunk-size-requires-clause-tiled
unname_chunk-size-requires-clause-tiled g c = c.loop-left.invariant.settled.tiled

pub unname_chunk-size-requires-clause-slots : goal.unname_chunk-size-requires-clause-slots
unname_chunk-size-requires-clause-slots g c = c.loop-left.invariant.entries ∙ c.requires.slots

pub unname_chunk-size-requires-clause-stands : goal.unname_chunk-size-requires-clause-stands
unname_chunk-size-requires-clause-stands g c = unnaming_stands c.args.range.now (g.M.Memory.granules c.args.mem.now) (g.M.Memory.granules c.loop-left.mem) c.args.names.now.items c.loop-left.names.items c.loop-left.waiting c.loop-left.left c.loop-left.invariant c.loop-left-test.true

pub overflow_sub-waiting : goal.overflow_sub-waiting
overflow_sub-waiting g c = (unnaming_step c.args.range.now (g.M.Memory.granules c.args.mem.now) (g.M.Memory.granules c.loop-left.mem) (g.M.Memory.granules c.unname_chunk-size.new.mem) c.args.names.now.items c.loop-left.names.items c.unname_chunk-size.new.names.items c.loop-left.waiting c.loop-left.left c.unname_chunk-size.result.0 c.unname_chunk-size.result.1 c.requires.slots c.loop-left.invariant c.loop-left-test.true c.unname_chunk-size.ensures.size c.unname_chunk-size.ensures.unnames).fewer

pub overflow_sub-left : goal.overflow_sub-left
overflow_sub-left g c = (unnaming_step c.args.range.now (g.M.Memory.granules c.args.mem.now) (g.M.Memory.granules c.loop-left.mem) (g.M.Memory.granules c.unname_chunk-size.new.mem) c.args.names.now.items c.loop-left.names.items c.unname_chunk-size.new.names.items c.loop-left.waiting c.loop-left.left c.unname_chunk-size.result.0 c.unname_chunk-size.result.1 c.requires.slots c.loop-left.invariant c.loop-left-test.true c.unname_chunk-size.ensures.size c.unname_chunk-size.ensures.unnames).most

pub loop-left-smaller : goal.loop-left-smaller
loop-left-smaller g c =
    let k = unnaming_step c.args.range.now (g.M.Memory.granules c.args.mem.now) (g.M.Memory.granules c.loop-left.mem) (g.M.Memory.granules c.unname_chunk-size.new.mem) c.args.names.now.items c.loop-left.names.items c.unname_chunk-size.new.names.items c.loop-left.waiting c.loop-left.left c.unname_chunk-size.result.0 c.unname_chunk-size.result.1 c.requires.slots c.loop-left.invariant c.loop-left-test.true c.unname_chunk-size.ensures.size c.unname_chunk-size.ensures.unnames in
    let some = k.some in
    let most = k.most in
    omega (arith, some, most)

pub loop-left-preserved : goal.loop-left-preserved
loop-left-preserved g c = (unnaming_step c.args.range.now (g.M.Memory.granules c.args.mem.now) (g.M.Memory.granules c.loop-left.mem) (g.M.Memory.granules c.unname_chunk-size.new.mem) c.args.names.now.items c.loop-left.names.items c.unname_chunk-size.new.names.items c.loop-left.waiting c.loop-left.left c.unname_chunk-size.result.0 c.unname_chunk-size.result.1 c.requires.slots c.loop-left.invariant c.loop-left-test.true c.unname_chunk-size.ensures.size c.unname_chunk-size.ensures.unnames).goes_on

pub returns : goal.returns
returns g c = unnaming_ends c.args.range.now (g.M.Memory.granules c.args.mem.now) (g.M.Memory.granules c.loop-left.mem) c.args.names.now.items c.loop-left.names.items c.loop-left.waiting c.loop-left.left c.requires.settled c.loop-left.invariant c.loop-left-test.false

pub overflow_add-at : goal.overflow_add-at
overflow_add-at g c = let fits = (unnaming_ahead c.args.range.now (g.M.Memory.granules c.args.mem.now) (g.M.Memory.granules c.loop-left.mem) c.args.names.now.items c.loop-left.names.items c.loop-left.waiting c.loop-left.left c.loop-left.invariant c.loop-left-test.true).fits in omega (arith, fits)
