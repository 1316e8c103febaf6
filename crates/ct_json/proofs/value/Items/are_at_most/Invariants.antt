use Rattle.std.proofs.Common.{◌≡◌, length, nat_le}
use Rattle.ct_json.specs.Values.{items_left}
use Rattle.ct_json.proofs.value.Items.are_at_most.Given as goal

abbrev pub invariant-loop-item : goal.invariant-loop-item
invariant-loop-item l =
    nat_le (length (items_left l._item-iterator)) l.more ≡ nat_le (length (items_left l.fn.self)) l.most
