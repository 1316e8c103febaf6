use Rattle.std.proofs.Common.{◌≡◌, ◌+◌, ◌*◌, ◌≤◌, take}
use Rattle.def_profile.specs.declared.limits.TheConstants.{MOST_COMPARTMENT_ENTRIES}
use Rattle.def_image.specs.Sizes.{sum_of}
use Rattle.def_link.specs.Linked.{compartment_parts}
use Rattle.ct_link.specs.Rows.{own_built, row_entries}
use Rattle.ct_link.proofs.owners.compartment_parts.Given as goal

abbrev pub invariant-loop-compartment : goal.invariant-loop-compartment
invariant-loop-compartment l =
    (l.index ≡ l.compartment-index)
    × (l.at ≡ 3 * l.compartment-index)
    × (l.entry ≡ 1 + sum_of row_entries (take l.compartment-index l.desc.compartments))
    × (l.entry ≤ 1 + MOST_COMPARTMENT_ENTRIES * l.compartment-index)
    × (l.parts.items ≡ compartment_parts l.desc 1 l.regions (own_built (take l.compartment-index l.desc.compartments) (take l.compartment-index l.objects)))
