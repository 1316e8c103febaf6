use Rattle.std.proofs.Common.{◌+◌, drop, arith}
use Rattle.ct_engine.proofs.Begins.{next_clear, begun_at, begun_next, have_begun}
use Rattle.ct_engine.proofs.starting.begin_all.Goals as goal

pub begin-row-requires-clause-clear : goal.begin-row-requires-clause-clear
begin-row-requires-clause-clear g c =
    next_clear c.args.region (g.M.Memory.granules c.args.mem.now) (g.M.Memory.granules c.loop-i.mem) c.loop-i.list.items c.args.fresh.now (drop (c.loop-i.i + 1) c.args.fresh.now) c.index-fresh-i.result
    (begun_at _ _ _ _ _ _ _ c.loop-i.invariant c.loop-i-test.true c.index-fresh-i.is)

pub loop-i-preserved : goal.loop-i-preserved
loop-i-preserved g c =
    rw c.in_ok-push.ensures.items
    (begun_next c.args.region (g.M.Memory.granules c.args.mem.now) (g.M.Memory.granules c.loop-i.mem) c.loop-i.list.items c.args.fresh.now (drop (c.loop-i.i + 1) c.args.fresh.now) c.index-fresh-i.result
    (begun_at _ _ _ _ _ _ _ c.loop-i.invariant c.loop-i-test.true c.index-fresh-i.is) (g.M.Memory.granules c.begin-row.new.mem) c.begin-row.result
    c.begin-row.ensures.touches c.begin-row.ensures.kept c.begin-row.ensures.area c.begin-row.ensures.thread)

pub returns : goal.returns
returns g c =
    have_begun c.args.region (g.M.Memory.granules c.args.mem.now) (g.M.Memory.granules c.loop-i.mem) c.loop-i.list.items c.args.fresh.now c.loop-i.i c.loop-i.invariant (omega (arith, c.loop-i-test.false))
