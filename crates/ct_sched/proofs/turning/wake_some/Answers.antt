use Rattle.std.proofs.Common.{◌≡◌, inl, inr, arith, sym, subst, ◌∙◌, length}
use Rattle.def_sched.specs.declared.Status.TheVariants.{Ended}
use Rattle.ct_sched.proofs.Woken.{SoFar, one_wakes, one_stays, all_woken}
use Rattle.ct_sched.proofs.turning.wake_some.Goals as goal
use Rattle.ct_sched.proofs.turning.wake_some.Goals.{then-count-most+then-waits_for, else-count-most, else-count-most-via-then-count-most+else-waits_for, else-count-most-via-else-count-most}

pub loop-t-preserved : goal.loop-t-preserved
loop-t-preserved c = elim c.if-count-most.branch [
  | then-count-most+then-waits_for w ↦
      rw (w.statuses-is, w.count-is)
      (one_wakes c.args.address c.args.most c.args.statuses.now c.loop-t.t c.loop-t.statuses c.loop-t.count _ c.loop-t.invariant c.loop-t-test.true w.if-count-most.true (sym w.waits_for.ensures ∙ w.if-waits_for.true))
  | else-count-most w ↦
      rw (w.statuses-is, w.count-is)
      (elim w.else-count-most.branch [
        | else-count-most-via-then-count-most+else-waits_for v ↦
            one_stays c.args.address c.args.most c.args.statuses.now c.loop-t.t c.loop-t.statuses c.loop-t.count _ c.loop-t.invariant c.loop-t-test.true (inr (sym v.waits_for.ensures ∙ v.if-waits_for.false))
        | else-count-most-via-else-count-most v ↦
            one_stays c.args.address c.args.most c.args.statuses.now c.loop-t.t c.loop-t.statuses c.loop-t.count Ended c.loop-t.invariant c.loop-t-test.true (inl v.if-count-most.false)
      ])
]

pub returns : goal.returns
returns c =
    let whole : c.loop-t.t ≡ length c.args.statuses.now = omega arith in
    let done : SoFar c.args.address c.args.most c.args.statuses.now (length c.args.statuses.now) c.loop-t.statuses c.loop-t.count =
    subst (λ n. SoFar c.args.address c.args.most c.args.statuses.now n c.loop-t.statuses c.loop-t.count) whole c.loop-t.invariant in
    let both = all_woken c.args.address c.args.most c.args.statuses.now c.loop-t.statuses c.loop-t.count done in
    record { statuses = both.0; count = both.1 }
