use Rattle.ct_policy.proofs.Indexed.{SoFarSum}
use Rattle.ct_policy.proofs.index.total_of.Given as goal

abbrev pub invariant-loop-index : goal.invariant-loop-index
invariant-loop-index l = SoFarSum l.rows l.index l.total
