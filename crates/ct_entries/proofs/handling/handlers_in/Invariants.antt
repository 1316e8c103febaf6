use Rattle.std.proofs.Common.{◌≡◌, ◌++◌, drop, map}
use Rattle.ct_entries.specs.Fits.{handler_in}
use Rattle.ct_entries.proofs.handling.handlers_in.Given as goal

abbrev pub invariant-loop-compartment : goal.invariant-loop-compartment
invariant-loop-compartment l = l.all.items ++ map handler_in (drop l.compartment-index l.compartments) ≡ map handler_in l.compartments
