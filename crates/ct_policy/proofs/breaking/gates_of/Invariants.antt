use Rattle.std.proofs.Common.{◌≤◌, length, drop}
use Rattle.ct_policy.specs.Gates.{AreGates}
use Rattle.ct_policy.proofs.breaking.gates_of.Given as goal

pub record Filled (l : goal.Live-loop-left) : Type 0 where
  pub inside : l.left ≤ length l.entries.gates
  pub are : AreGates (drop l.left l.entries.gates) (length l.entries.rows) l.gates.items

abbrev pub invariant-loop-left : goal.invariant-loop-left
invariant-loop-left l = Filled l

abbrev pub decreases-loop-left : goal.decreases-loop-left
decreases-loop-left l = l.left
