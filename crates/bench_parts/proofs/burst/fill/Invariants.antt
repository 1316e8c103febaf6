use Rattle.std.proofs.Common.{◌≡◌, length}
use Rattle.bench_parts.proofs.burst.fill.Given as goal

abbrev pub invariant-loop-k : goal.invariant-loop-k
invariant-loop-k g l = length (g.M.Memory.granules l.memory) ≡ 8192
