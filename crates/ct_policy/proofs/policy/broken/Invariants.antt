use Rattle.std.proofs.Common.{string_bytes}
use Rattle.ct_policy.proofs.Denying.{Sofar}
use Rattle.ct_policy.proofs.policy.broken.Given as goal

abbrev pub invariant-loop-place : goal.invariant-loop-place
invariant-loop-place l = Sofar l.image l.rules l.place (string_bytes l.text)
