use Rattle.std.proofs.Common.{◌≡◌}
use Rattle.law_lists.proofs.Maps.{so_far}
use Rattle.def_sched.specs.Statuses.{after_tick}
use Rattle.ct_sched.proofs.turning.tick_all.Given as goal

abbrev pub invariant-loop-status : goal.invariant-loop-status
invariant-loop-status l = l.statuses ≡ so_far after_tick l.status-index l.initial.statuses
