use Rattle.std.proofs.Common.{arith}
use Rattle.law_lists.proofs.Maps.{step}
use Rattle.def_sched.specs.Statuses.{after_tick}
use Rattle.ct_sched.proofs.turning.tick_all.Goals as goal

pub loop-status-preserved : goal.loop-status-preserved
loop-status-preserved c = step after_tick c.args.statuses.now c.loop-status.statuses c.loop-status.status-index _ _ c.loop-status.invariant (omega arith) c.ticked.ensures
