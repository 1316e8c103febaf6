use Rattle.std.proofs.Common.{◌≡◌, drop}
use Rattle.def_step.specs.Devices.{found, found_from}
use Rattle.ct_bus.proofs.bus.find.Given as goal

-- the search in the rest is the search in all
abbrev pub invariant-loop-index : goal.invariant-loop-index
invariant-loop-index l = found_from l.index (drop l.index l.bases) l.address ≡ found l.bases l.address
