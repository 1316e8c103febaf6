use Rattle.std.proofs.Common.{◌∙◌, sym}
use Rattle.ct_sched.proofs.Ready.{idle_picks}
use Rattle.ct_sched.proofs.sched.Sched.none_is_ready.Goals as goal

pub returns-then-are_idle : goal.returns-then-are_idle
returns-then-are_idle c =
    let idle = rw c.deref.ensures.value at c.are_idle.ensures c.if-are_idle.true in
    rw (← c.self.view_is) (c.if-are_idle.true ∙ sym (idle_picks c.self.inside.priorities.items c.self.inside.statuses.items c.self.inside.order.items idle))
