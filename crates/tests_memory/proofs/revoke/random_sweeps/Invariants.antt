use Rattle.std.proofs.Common.{◌≡◌, length}
use Rattle.tests_memory.proofs.revoke.random_sweeps.Given as goal

abbrev pub invariant-loop-round : goal.invariant-loop-round
invariant-loop-round g l = length (g.M.Memory.granules l.memory) ≡ 64
