use Rattle.std.proofs.Common.{◌≡◌, ◌/◌, length, drop, take}
use Rattle.def_memory.specs.Granules.{holding_all}
use Rattle.ct_areas.proofs.stops.put_registers.Given as goal

abbrev pub invariant-loop-i : goal.invariant-loop-i
invariant-loop-i g l = record {
  written : g.M.Memory.granules l.mem ≡ holding_all (g.M.Memory.granules l.fn.mem) (l.at / 8) (take l.i (drop 1 l.registers));
  size : length (g.M.Memory.granules l.mem) ≡ length (g.M.Memory.granules l.fn.mem);
}
