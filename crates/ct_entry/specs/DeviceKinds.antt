-- What a device's kind says but what its registers do: its number in an image, its name in a description and a report,
-- and whether a script's bytes come to it.
use Rattle.std.specs.Prelude.{ℕ, ◌-◌, ◌==◌, List, [], map, slice_index_or, Bool, true, false, if◌then◌else◌}
use Rattle.ct_entry.specs.declared.hardware.DeviceKind.{DeviceKind}
use Rattle.ct_entry.specs.declared.hardware.DeviceKind.TheVariants.{Uart, Timer, Gpio}
use Rattle.ct_entry.specs.declared.hardware.TheConstants.{DEVICE_KINDS}

abbrev pub device_number : DeviceKind → ℕ
device_number Uart = 1
device_number Timer = 2
device_number Gpio = 3

-- the kind of a number from 1 to 3
abbrev pub device_kind_of : ℕ → DeviceKind
device_kind_of n = if n == 1 then Uart else if n == 2 then Timer else Gpio

-- the name at the kind's place in the list
abbrev pub kind_text : DeviceKind → List ℕ
kind_text k = slice_index_or (map (λ r. r.0.now) DEVICE_KINDS) (device_number k - 1) []

-- bytes come to serial ports and gpios
abbrev pub takes_bytes : DeviceKind → Bool
takes_bytes Uart = true
takes_bytes Timer = false
takes_bytes Gpio = true
