use Rattle.ct_sched.proofs.Woken.{kept_at_first}
use Rattle.ct_sched.proofs.sched.Sched.new.Goals as goal

pub invariant_of-result : goal.invariant_of-result
invariant_of-result c =
    rw (c.in_ok-from_slice.ensures.items, c.in_ok-all_ready.ensures, c.in_ok-first_order.ensures) (kept_at_first c.args.priorities.now c.requires)
