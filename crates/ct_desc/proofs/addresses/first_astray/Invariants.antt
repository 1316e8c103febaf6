use Rattle.std.proofs.Common.{◌≡◌, [], take, drop}
use Rattle.def_desc.specs.Addresses.{first_astray}
use Rattle.ct_desc.proofs.addresses.first_astray.Given as goal

abbrev pub invariant-loop-index : goal.invariant-loop-index
invariant-loop-index l = first_astray l.ram (take l.index l.devices) (drop l.index l.devices) ≡ first_astray l.ram [] l.devices
