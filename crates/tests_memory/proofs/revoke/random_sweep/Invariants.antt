use Rattle.std.proofs.Common.{◌≡◌, ◌≤◌, length}
use Rattle.std.specs.Prelude.{IsSome, unwrap_or}
use Rattle.tests_memory.proofs.revoke.random_sweep.Given as goal

abbrev pub invariant-loop-slice : goal.invariant-loop-slice
invariant-loop-slice g l = (length (g.M.Memory.granules l.memory) ≡ 64) × IsSome l.front × (unwrap_or l.front 0 ≤ 512)
