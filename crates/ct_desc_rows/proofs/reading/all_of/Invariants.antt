use Rattle.std.proofs.Common.{◌≡◌, ◌++◌, map}
use Rattle.ct_json.specs.Values.{items_left}
use Rattle.ct_desc_rows.proofs.reading.all_of.Given as goal

abbrev pub invariant-loop-value : goal.invariant-loop-value
invariant-loop-value g l =
    l.all.items ++ map g.R.Row.meaning (items_left l.value-iterator)
    ≡ map g.R.Row.meaning (items_left l.initial.value-iterator)
