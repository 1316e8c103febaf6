use Rattle.std.proofs.Common.{◌+◌, ◌*◌}
use Rattle.def_boot.specs.Booting.{Stage, IsFrom}
use Rattle.ct_boot.proofs.putting.put_bytes.Given as goal

-- the words so far are booted
abbrev pub invariant-loop-index : goal.invariant-loop-index
invariant-loop-index g l = Stage l.parts (g.M.Memory.granules l.fn.mem) (g.M.Memory.granules l.mem) (IsFrom l.base (l.base + 8 * l.index))
