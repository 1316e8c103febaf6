use Rattle.std.proofs.Common.{◌≡◌}
use Rattle.std.specs.List.{list_all}
use Rattle.ct_json.specs.Values.{keys_left}
use Rattle.ct_desc_value.specs.Seen.{is_listed_beside}
use Rattle.ct_desc_value.proofs.listed.are_listed.Given as goal

abbrev pub invariant-loop-key : goal.invariant-loop-key
invariant-loop-key l =
    list_all (is_listed_beside l.part l.rights) (keys_left l.key-iterator)
    ≡ list_all (is_listed_beside l.part l.rights) (keys_left l.initial.key-iterator)
