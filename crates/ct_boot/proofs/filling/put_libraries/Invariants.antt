use Rattle.def_boot.specs.Booting.{Stage}
use Rattle.def_boot.specs.Written.{InCode, InFirst}
use Rattle.ct_boot.proofs.filling.put_libraries.Given as goal

-- those so far are booted
abbrev pub invariant-loop-of : goal.invariant-loop-of
invariant-loop-of g l = Stage l.parts (g.M.Memory.granules l.fn.mem) (g.M.Memory.granules l.mem) (InFirst InCode l.parts.libraries l.of)
