use Rattle.std.proofs.Common.{◌≡◌, length}
use Rattle.tests_memory.proofs.loadstore.no_stores.Given as goal

abbrev pub invariant-loop-row : goal.invariant-loop-row
invariant-loop-row g l = length (g.M.Memory.granules l.mem) ≡ 4
