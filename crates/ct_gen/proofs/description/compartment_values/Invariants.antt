use Rattle.std.proofs.Common.{◌≡◌, map}
use Rattle.std.specs.List.{range_with_len}
use Rattle.serde_json.specs.View.{view}
use Rattle.def_gen.specs.Numbers.{x_at}
use Rattle.def_gen.specs.Description.{compartment_object}
use Rattle.ct_gen.proofs.description.compartment_values.Given as goal

abbrev pub invariant-loop-i : goal.invariant-loop-i
invariant-loop-i l = (l.x ≡ x_at l.number l.i) × (map view l.values.items ≡ map (compartment_object l.number) (range_with_len 0 l.i))
