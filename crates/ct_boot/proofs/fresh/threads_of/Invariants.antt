use Rattle.ct_boot.proofs.Standing.{IsSoFar}
use Rattle.ct_boot.proofs.fresh.threads_of.Given as goal

-- the threads so far, and where the next one's area begins
abbrev pub invariant-loop-index : goal.invariant-loop-index
invariant-loop-index l = IsSoFar l.parts l.fresh.items l.index l.at
