use Rattle.ct_sched.proofs.Woken.{SoFar}
use Rattle.ct_sched.proofs.turning.wake_some.Given as goal

abbrev pub invariant-loop-t : goal.invariant-loop-t
invariant-loop-t l = SoFar l.address l.most l.initial.statuses l.t l.statuses l.count
