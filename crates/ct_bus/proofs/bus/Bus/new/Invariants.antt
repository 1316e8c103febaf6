use Rattle.std.proofs.Common.{◌≡◌, map, take}
use Rattle.def_machine.specs.State.{fresh_device}
use Rattle.ct_bus.proofs.bus.Bus.new.Given as goal

-- the first devices stand there
abbrev pub invariant-loop-device : goal.invariant-loop-device
invariant-loop-device l = (l.bases.items ≡ map (λ d. d.base) (take l.device-index l.devices)) × (l.units.items ≡ map (λ d. fresh_device d.kind) (take l.device-index l.devices))
