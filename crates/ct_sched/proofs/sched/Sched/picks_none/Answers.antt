use Rattle.std.proofs.Common.{is_none, sym, ap}
use Rattle.law_sched.proofs.Picks.{none_is_picked}
use Rattle.ct_sched.specs.Choosing.{IsForemost, NoneReady}
use Rattle.ct_sched.proofs.Picked.{pick_is}
use Rattle.ct_sched.proofs.sched.Sched.picks_none.Goals as goal

pub returns-in-Some : goal.returns-in-Some
returns-in-Some c =
    let found : IsForemost c.self.inside.priorities.items c.self.inside.statuses.items c.self.inside.order.items c.in-Some.field-0 = rw (c.deref.ensures.value, c.deref-2.ensures.value, c.deref-3.ensures.value) at c.in-Some.ensures in
    rw (← c.self.view_is) (sym (ap is_none (pick_is c.self.inside.priorities.items c.self.inside.statuses.items c.self.inside.order.items c.in-Some.field-0 found)))

pub returns-in-None : goal.returns-in-None
returns-in-None c =
    let nothing : NoneReady c.self.inside.statuses.items c.self.inside.order.items = rw (c.deref-2.ensures.value, c.deref-3.ensures.value) at c.in-None.ensures in
    rw (← c.self.view_is) (sym (ap is_none (none_is_picked c.self.inside.priorities.items c.self.inside.statuses.items c.self.inside.order.items nothing)))
