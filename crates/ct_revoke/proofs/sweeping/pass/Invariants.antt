use Rattle.std.proofs.Common.{◌*◌, ◌-◌, length}
use Rattle.ct_revoke.proofs.Passing.{Passing}
use Rattle.ct_revoke.proofs.sweeping.pass.Given as goal

-- what stands below `at` is passed
abbrev pub invariant-loop-found : goal.invariant-loop-found
invariant-loop-found g l = Passing l.ram l.low l.high l.at (g.M.Memory.granules l.fn.mem) (g.M.Memory.granules l.mem)

abbrev pub decreases-loop-found : goal.decreases-loop-found
decreases-loop-found g l = 8 * length (g.M.Memory.granules l.mem) - l.at
