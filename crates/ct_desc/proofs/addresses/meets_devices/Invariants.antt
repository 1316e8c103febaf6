use Rattle.std.proofs.Common.{◌≡◌, drop}
use Rattle.std.specs.List.{list_any}
use Rattle.def_desc.specs.Addresses.{meets_device}
use Rattle.ct_desc.proofs.addresses.meets_devices.Given as goal

abbrev pub invariant-loop-device : goal.invariant-loop-device
invariant-loop-device l = list_any (meets_device l.base) (drop l.device-index l.devices) ≡ list_any (meets_device l.base) l.devices
