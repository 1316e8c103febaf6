use Rattle.std.proofs.Common.{◌≡◌, ◌+◌, ◌++◌, List, arith, sym, subst, length, take, drop}
use Rattle.def_sched.specs.declared.Status.{Status}
use Rattle.def_sched.specs.Statuses.{woken, woken_count}
use Rattle.ct_sched.specs.Sched.{IsKept}
use Rattle.ct_sched.proofs.Woken.{all_put, few_go, kept_by_wake}
use Rattle.ct_sched.proofs.sched.Sched.wake.Goals as goal

pub overflow_add-self : goal.overflow_add-self
overflow_add-self c =
    let count : c.wake_some-count.result ≡ woken_count c.args.address c.args.most c.self.inside.statuses.items = rw c.deref_mut.ensures.value at c.wake_some-count.ensures.count in
    omega (arith, few_go c.args.address c.args.most c.self.inside.statuses.items, count)

pub invariant_of-self : goal.invariant_of-self
invariant_of-self c =
    let old = c.self.inside.statuses.items in
    let new = c.wake_some-count.new.statuses in
    let count : c.wake_some-count.result ≡ woken_count c.args.address c.args.most old = rw c.deref_mut.ensures.value at c.wake_some-count.ensures.count in
    let made : new ≡ woken c.args.address c.args.most old = rw c.deref_mut.ensures.value at c.wake_some-count.ensures.statuses in
    let whole = all_put c.args.address c.args.most c.self.inside.statuses.len old new made (omega (arith, c.self.inside.statuses.ok)) in
    let kept = kept_by_wake (record { priorities = c.self.inside.priorities.items; statuses = old; order = c.self.inside.order.items }) c.self.inside.going c.args.address c.args.most c.self.invariant in
    subst (λ n. IsKept (record { priorities = c.self.inside.priorities.items; statuses = take c.self.inside.statuses.len (new ++ drop (length new) old); order = c.self.inside.order.items }) (c.self.inside.going + n)) (sym count)
    (subst (λ (ss : List Status). IsKept (record { priorities = c.self.inside.priorities.items; statuses = ss; order = c.self.inside.order.items }) (c.self.inside.going + woken_count c.args.address c.args.most old)) (sym whole) kept)
