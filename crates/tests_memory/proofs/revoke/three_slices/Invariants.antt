use Rattle.std.proofs.Common.{◌≡◌, ◌≤◌, length}
use Rattle.std.specs.Prelude.{IsSome, unwrap_or}
use Rattle.tests_memory.proofs.revoke.three_slices.Given as goal

abbrev pub invariant-loop-count : goal.invariant-loop-count
invariant-loop-count g l = (length (g.M.Memory.granules l.memory) ≡ 8) × IsSome l.front × (unwrap_or l.front 0 ≤ 64)
