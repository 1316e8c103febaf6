use Rattle.std.proofs.Common.{◌≡◌, ◌++◌, take}
use Rattle.def_link.specs.Linked.{compartment_sizes}
use Rattle.ct_link.specs.Rows.{own_built}
use Rattle.ct_link.proofs.sizes.add_compartments.Given as goal

abbrev pub invariant-loop-compartment : goal.invariant-loop-compartment
invariant-loop-compartment l =
    (l.index ≡ l.compartment-index)
    × (l.sizes.items ≡ l.fn.sizes.items ++ compartment_sizes (own_built (take l.compartment-index l.compartments) (take l.compartment-index l.objects)))
