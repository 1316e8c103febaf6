use Rattle.std.proofs.Common.{◌≡◌, length}
use Rattle.tests_memory.proofs.planes.same_answers.Given as goal

abbrev pub invariant-loop-call : goal.invariant-loop-call
invariant-loop-call g l = (length (g.A.Memory.granules l.first) ≡ 2048) × (length (g.B.Memory.granules l.second) ≡ 2048)
