use Rattle.std.proofs.Common.{◌≡◌, ◌≤◌, length}
use Rattle.std.specs.Prelude.{unwrap_or}
use Rattle.bench_parts.proofs.sweep.slices.Given as goal

abbrev pub invariant-loop : goal.invariant-loop
invariant-loop g l = (length (g.M.Memory.granules l.memory) ≡ 1048576) × (unwrap_or l.front 0 ≤ 8388608)
