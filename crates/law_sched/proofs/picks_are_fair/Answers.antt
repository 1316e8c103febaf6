use Rattle.std.proofs.Common.{length}
use Rattle.def_sched.specs.Records.{order_after}
use Rattle.law_sched.proofs.Picks.{none_is_picked, idle_all, idle_at, no_pick_is_idle}
use Rattle.law_sched.proofs.Records.{order_is, picked_is_fair, fair_is_picked}
use Rattle.law_sched.proofs.picks_are_fair.Goals as goal

pub returns : goal.returns
returns c = record {
  order = order_is;
  fair = λ count t ps ss picks h. (picked_is_fair count t ps ss picks h, fair_is_picked count t ps ss picks h);
  none = λ ps ss picks h.
      let order = order_after (length ss) picks in
      (λ none. idle_all ss order (order_is (length ss) picks h) (no_pick_is_idle ps ss order none), λ idle. none_is_picked ps ss order (λ k inside. idle_at ss _ idle));
}
