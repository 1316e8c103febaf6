use Rattle.ct_policy.proofs.Owned.{SoFar}
use Rattle.ct_policy.proofs.names.owners_named.Given as goal

-- those so far, and then the others
abbrev pub invariant-loop-name : goal.invariant-loop-name
invariant-loop-name l = SoFar l.parts l.names l.name-index l.owners.items
