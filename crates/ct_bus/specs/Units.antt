-- A device's state from what the code keeps of it, and that a serial port's queue has its length.
use Rattle.std.specs.Prelude.{◌≡◌, ◌≤◌, length}
use Rattle.ct_bus.specs.declared.unit.Kept as kept
use Rattle.ct_bus.specs.declared.unit.Kept.TheVariants as units
use Rattle.def_machine.specs.State.{DeviceState, Serial, Clock, Pins}

abbrev pub state_of : kept.Kept → DeviceState
state_of (units.Serial queue) = Serial queue.items
state_of units.Clock = Clock
state_of (units.Pins output input) = Pins output input

abbrev pub IsSound : kept.Kept → Type 0
IsSound (units.Serial queue) = (queue.capacity ≡ 64) × (length queue.items ≤ 64)
IsSound units.Clock = Unit {0}
IsSound (units.Pins output input) = Unit {0}
