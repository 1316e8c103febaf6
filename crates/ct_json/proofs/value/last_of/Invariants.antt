use Rattle.std.proofs.Common.{◌≡◌, None, option_map}
use Rattle.ct_json.specs.Values.{data_of, members_left}
use Rattle.ct_json.proofs.Pairs.{found_in}
use Rattle.ct_json.proofs.value.last_of.Given as goal

abbrev pub invariant-loop-name : goal.invariant-loop-name
invariant-loop-name l =
    found_in l.key (members_left l.name-iterator) (option_map data_of l.found) ≡ found_in l.key
    (members_left l.fn.pairs) None
