use Rattle.ct_policy.proofs.Indexed.{SoFarKeys}
use Rattle.ct_policy.proofs.index.keys_of.Given as goal

abbrev pub invariant-loop-index : goal.invariant-loop-index
invariant-loop-index l = SoFarKeys l.entries l.index l.keys.items
