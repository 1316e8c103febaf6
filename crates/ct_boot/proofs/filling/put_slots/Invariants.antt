use Rattle.std.proofs.Common.{◌+◌, ◌*◌}
use Rattle.def_boot.specs.Booting.{Stage, IsFrom}
use Rattle.ct_boot.proofs.filling.put_slots.Given as goal

-- the slots so far are booted
abbrev pub invariant-loop-index : goal.invariant-loop-index
invariant-loop-index g l = Stage l.parts (g.M.Memory.granules l.fn.mem) (g.M.Memory.granules l.mem) (IsFrom l.code.base (l.code.base + 8 * l.index))
