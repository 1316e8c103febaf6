use Rattle.std.proofs.Common.{◌≡◌, ◌+◌, ◌*◌, ◌≤◌, ◌++◌, drop}
use Rattle.std.specs.List.{AllByRecursion}
use Rattle.def_profile.specs.declared.limits.TheConstants.{MOST_COMPARTMENT_ENTRIES}
use Rattle.def_image.specs.Members.{compartment_entries}
use Rattle.def_image.specs.Sizes.{sum_of}
use Rattle.def_boot.specs.Gates.{compartment_gates}
use Rattle.ct_entries.specs.Fits.{CompartmentStands}
use Rattle.ct_entries.proofs.gates.add_compartments.Given as goal

abbrev pub invariant-loop-compartment : goal.invariant-loop-compartment
invariant-loop-compartment l = (l.gates.items ++ compartment_gates l.number (drop l.compartment-index l.compartments) ≡ l.fn.gates.items ++ compartment_gates 1 l.compartments)
    × (l.number + sum_of compartment_entries (drop l.compartment-index l.compartments) ≡ 1 + sum_of compartment_entries l.compartments)
    × AllByRecursion (CompartmentStands l.parts) (drop l.compartment-index l.compartments)
    × (l.number ≤ 1 + MOST_COMPARTMENT_ENTRIES * l.compartment-index)
