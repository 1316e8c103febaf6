use Rattle.std.proofs.Common.{◌≡◌, ◌++◌, map}
use Rattle.ct_json.specs.Values.{items_left}
use Rattle.def_desc.specs.Limits.{number_or_zero}
use Rattle.ct_desc_rows.proofs.reading.keys_of.Given as goal

abbrev pub invariant-loop-value : goal.invariant-loop-value
invariant-loop-value l =
    l.all.items ++ map number_or_zero (items_left l.value-iterator)
    ≡ map number_or_zero (items_left l.initial.value-iterator)
