use Rattle.std.proofs.Common.{◌≡◌, ◌/◌, ◌∷◌, drop}
use Rattle.def_memory.specs.Granules.{plain}
use Rattle.def_machine.specs.Memory.{filtered_in}
use Rattle.ct_areas.proofs.Stopped.{filled}
use Rattle.ct_areas.proofs.stops.take_registers.Given as goal

abbrev pub invariant-loop-i : goal.invariant-loop-i
invariant-loop-i g l =
    l.registers ≡ plain 0 ∷ filled (filtered_in l.ram (g.M.Memory.granules l.mem)) (g.M.Memory.granules l.mem) (l.at / 8) l.i (drop 1 l.fn.registers)
