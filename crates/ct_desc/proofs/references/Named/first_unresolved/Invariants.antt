use Rattle.std.proofs.Common.{◌≡◌, length}
use Rattle.ct_json.specs.Values.{data_of}
use Rattle.def_desc.specs.References.{refers_at}
use Rattle.def_desc.specs.Walk.{spots_of}
use Rattle.def_desc.specs.WellFormed.{first_failing}
use Rattle.ct_desc_value.specs.Seen.{spots_left}
use Rattle.ct_desc.proofs.references.Named.first_unresolved.Given as goal

abbrev pub invariant-loop-spot : goal.invariant-loop-spot
invariant-loop-spot l =
    first_failing (refers_at (data_of l.self.value)) (spots_left l.spots)
    ≡ first_failing (refers_at (data_of l.self.value)) (spots_of (data_of l.self.value))

abbrev pub decreases-loop-spot : goal.decreases-loop-spot
decreases-loop-spot l = length (spots_left l.spots)
