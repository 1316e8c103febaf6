use Rattle.std.proofs.Common.{rules}
use Rattle.ct_burst.specs.Going.{running_thread}
use Rattle.ct_burst.proofs.Onward.{both_for, stays_both}
use Rattle.ct_burst.proofs.bursting.burst.Goals as goal

pub returns-then-not-some-clause-goes : goal.returns-then-not-some-clause-goes
returns-then-not-some-clause-goes g c fs =
    both_for c.args.ram c.loop-made.made c.run-some.result.count (running_thread c.args.row.now fs) (running_thread c.loop-made.row fs) (running_thread c.run-some.new.row fs) (g.M.Memory.granules c.args.mem.now)
    (g.M.Memory.granules c.loop-made.mem) (g.M.Memory.granules c.run-some.new.mem) (c.loop-made.invariant.1 fs) (c.run-some.ensures.goes fs)

pub loop-made-preserved : goal.loop-made-preserved
loop-made-preserved g c =
    let gs = g.M.Memory.granules c.args.mem.now in
    let between = g.M.Memory.granules c.loop-made.mem in
    let after = g.M.Memory.granules c.run-some.new.mem in
    let kept = c.loop-made.invariant in (
      search rules,
      λ fs. both_for c.args.ram c.loop-made.made c.run-some.result.count (running_thread c.args.row.now fs) (running_thread c.loop-made.row fs) (running_thread c.run-some.new.row fs) gs between after (kept.1 fs) (c.run-some.ensures.goes fs),
      stays_both c.args.row.now c.loop-made.row c.run-some.new.row gs between after kept.2 c.run-some.ensures.stays,
      c.window_of.ensures.is,
    )
