use Rattle.std.proofs.Common.{◌≡◌, ◌++◌, ◌∷◌, [], ℕ, List, Some, arith, refl, sym, subst, ◌∙◌, ap, length, take, drop}
use Rattle.std.proofs.Math.ListN.{get_or}
use Rattle.std.proofs.lemmas.List.{get_or_default}
use Rattle.std.specs.List.{remove}
use Rattle.def_sched.specs.Picks.{moved_last}
use Rattle.law_sched.proofs.Picks.{none_is_picked, idle_all}
use Rattle.ct_sched.specs.Choosing.{IsForemost, NoneReady}
use Rattle.ct_sched.specs.Sched.{IsKept}
use Rattle.ct_sched.proofs.Picked.{pick_is, moved, kept_by_pick}
use Rattle.ct_sched.proofs.sched.Sched.pick.Goals as goal

found : (c : goal.After-self-1) → IsForemost c.self.inside.priorities.items c.self.inside.statuses.items c.self.inside.order.items c.in-Some.place
found c = rw (c.deref.ensures.value, c.deref-2.ensures.value, c.deref-3.ensures.value) at c.in-Some.ensures

after : (c : goal.After-self-1) → take c.self.inside.order.len (c.move_last.new.order ++ drop (length c.move_last.new.order) c.self.inside.order.items) ≡ moved_last c.index-t.result.now c.self.inside.order.items
after c =
    let put : c.move_last.new.order ≡ remove c.self.inside.order.items c.in-Some.place ++ get_or c.self.inside.order.items c.in-Some.place 0 ∷ [] = rw c.deref_mut.ensures.value at c.move_last.ensures in
    moved c.self.inside.order.items c.move_last.new.order c.in-Some.place c.index-t.result.now c.self.inside.order.len (length c.self.inside.statuses.items) c.self.invariant.order (found c).inside c.index-t.ensures put (omega (arith, c.self.inside.order.ok))

nothing_ready : (c : goal.In-None) → NoneReady c.self.inside.statuses.items c.self.inside.order.items
nothing_ready c = rw (c.deref-2.ensures.value, c.deref-3.ensures.value) at c.in-None.ensures

pub invariant_of-self : goal.invariant_of-self
invariant_of-self c =
    subst (λ (o : List ℕ). IsKept (record { priorities = c.self.inside.priorities.items; statuses = c.self.inside.statuses.items; order = o }) c.self.inside.going) (sym (after c))
    (kept_by_pick (record { priorities = c.self.inside.priorities.items; statuses = c.self.inside.statuses.items; order = c.self.inside.order.items }) c.self.inside.going c.in-Some.place c.index-t.result.now c.self.invariant (found c).inside c.index-t.ensures)

pub returns-in-Some-clause-picked : goal.returns-in-Some-clause-picked
returns-in-Some-clause-picked c =
    rw (← c.self.view_is)
    (ap (λ t. Some t) (c.index-t.ensures ∙ get_or_default c.self.inside.order.items c.in-Some.place c.index-t.result.now 0 (found c).inside)
    ∙ sym (pick_is c.self.inside.priorities.items c.self.inside.statuses.items c.self.inside.order.items c.in-Some.place (found c)))

pub returns-in-Some-clause-row : goal.returns-in-Some-clause-row
returns-in-Some-clause-row c =
    rw (← c.self.view_is)
    (ap (λ (o : List ℕ). record { priorities = c.self.inside.priorities.items; statuses = c.self.inside.statuses.items; order = o }) (after c))

pub returns-in-None-clause-picked : goal.returns-in-None-clause-picked
returns-in-None-clause-picked c =
    rw (← c.self.view_is) (sym (none_is_picked c.self.inside.priorities.items c.self.inside.statuses.items c.self.inside.order.items (nothing_ready c)))

pub returns-in-None-clause-none : goal.returns-in-None-clause-none
returns-in-None-clause-none c =
    rw (← c.self.view_is) (λ _. idle_all c.self.inside.statuses.items c.self.inside.order.items c.self.invariant.order (nothing_ready c), λ _. refl)
