use Rattle.std.proofs.Common.{◌≡◌, take}
use Rattle.ct_link.proofs.laid.devices_of.Given as goal

abbrev pub invariant-loop-device : goal.invariant-loop-device
invariant-loop-device l =
    l.devices.items ≡ take l.device-index l.all
