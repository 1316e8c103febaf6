use Rattle.std.proofs.Common.{◌≤◌, length}
use Rattle.ct_policy.specs.Links.{AreLinked}
use Rattle.ct_policy.proofs.links.links_of.Given as goal

pub record Linking (l : goal.Live-loop-left) : Type 0 where
  pub inside : l.left ≤ length l.keys
  pub are : AreLinked l.keys l.size l.left (record { firsts = l.firsts.items; nexts = l.nexts.items })

abbrev pub invariant-loop-left : goal.invariant-loop-left
invariant-loop-left l = Linking l

abbrev pub decreases-loop-left : goal.decreases-loop-left
decreases-loop-left l = l.left
