use Rattle.std.proofs.Common.{◌-◌, rules}
use Rattle.ct_burst.specs.Going.{running_thread}
use Rattle.ct_burst.proofs.Onward.{both_for, stays_both}
use Rattle.ct_burst.proofs.Windows.{window_kept}
use Rattle.ct_burst.proofs.bursting.run.Goals as goal

pub loop-made-preserved : goal.loop-made-preserved
loop-made-preserved g c =
    let gs = g.M.Memory.granules c.args.mem.now in
    let between = g.M.Memory.granules c.loop-made.mem in
    let after = g.M.Memory.granules c.run_line-line.new.mem in
    let new = c.run_line-line.new.row in
    let kept = c.loop-made.invariant in
    let held = c.run_line-line.ensures.led c.in-Led.is in (
      search rules,
      λ fs. both_for c.args.ram c.loop-made.made (c.min-words.result - c.run_line-line.result.to_come) (running_thread c.args.row.now fs) (running_thread c.loop-made.row fs) (running_thread new fs) gs between after (kept.1 fs) (c.run_line-line.ensures.goes fs),
      stays_both c.args.row.now c.loop-made.row new gs between after kept.2 c.run_line-line.ensures.stays,
      held,
      window_kept c.args.ram c.loop-made.row new between after c.args.window kept.4 c.run_line-line.ensures.stays.size held.on.suits,
    )

pub returns-in-Turned-clause-goes : goal.returns-in-Turned-clause-goes
returns-in-Turned-clause-goes g c fs =
    both_for c.args.ram c.loop-made.made (c.min-words.result - c.run_line-line.result.to_come) (running_thread c.args.row.now fs) (running_thread c.loop-made.row fs) (running_thread c.run_line-line.new.row fs) (g.M.Memory.granules c.args.mem.now)
    (g.M.Memory.granules c.loop-made.mem) (g.M.Memory.granules c.run_line-line.new.mem) (c.loop-made.invariant.1 fs) (c.run_line-line.ensures.goes fs)

pub returns-in-Loud-clause-goes : goal.returns-in-Loud-clause-goes
returns-in-Loud-clause-goes g c fs =
    both_for c.args.ram c.loop-made.made (c.min-words.result - c.run_line-line.result.to_come) (running_thread c.args.row.now fs) (running_thread c.loop-made.row fs) (running_thread c.run_line-line.new.row fs) (g.M.Memory.granules c.args.mem.now)
    (g.M.Memory.granules c.loop-made.mem) (g.M.Memory.granules c.run_line-line.new.mem) (c.loop-made.invariant.1 fs) (c.run_line-line.ensures.goes fs)
