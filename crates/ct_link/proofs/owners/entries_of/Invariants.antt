use Rattle.std.proofs.Common.{◌≡◌, ◌*◌, ◌≤◌, take}
use Rattle.def_profile.specs.declared.limits.TheConstants.{MOST_COMPARTMENT_ENTRIES}
use Rattle.def_image.specs.Sizes.{sum_of}
use Rattle.ct_link.specs.Rows.{row_entries}
use Rattle.ct_link.proofs.owners.entries_of.Given as goal

abbrev pub invariant-loop-compartment : goal.invariant-loop-compartment
invariant-loop-compartment l =
    (l.entries ≡ sum_of row_entries (take l.compartment-index l.compartments)) × (l.entries ≤ MOST_COMPARTMENT_ENTRIES * l.compartment-index)
