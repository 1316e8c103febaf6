use Rattle.std.proofs.Common.{◌++◌, ◌∷◌, [], ◌∙◌, ap, sym}
use Rattle.ct_sched.proofs.Woken.{range_more}
use Rattle.ct_sched.proofs.choosing.first_order.Goals as goal

pub loop-t-preserved : goal.loop-t-preserved
loop-t-preserved c = c.in_ok-push.ensures.items ∙ ap (λ r. r ++ c.loop-t.t ∷ []) c.loop-t.invariant ∙ sym (range_more c.loop-t.t)
