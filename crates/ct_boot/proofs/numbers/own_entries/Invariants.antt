use Rattle.std.proofs.Common.{◌≡◌, ◌≤◌, ◌+◌, ◌*◌, drop}
use Rattle.def_profile.specs.declared.limits.TheConstants.{MOST_COMPARTMENT_ENTRIES}
use Rattle.def_image.specs.Members.{compartment_entries}
use Rattle.def_image.specs.Sizes.{sum_of}
use Rattle.ct_boot.proofs.numbers.own_entries.Given as goal

-- those counted and those to come are all
abbrev pub invariant-loop-compartment : goal.invariant-loop-compartment
invariant-loop-compartment l =
    (l.total + sum_of compartment_entries (drop l.compartment-index l.compartments) ≡ sum_of compartment_entries l.compartments) × (l.total ≤ MOST_COMPARTMENT_ENTRIES * l.compartment-index)
