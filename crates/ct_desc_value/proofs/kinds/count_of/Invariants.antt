use Rattle.std.proofs.Common.{◌≡◌, ◌+◌, map, drop}
use Rattle.std.specs.List.{count_by}
use Rattle.ct_json.specs.Values.{data_of}
use Rattle.def_desc.specs.Members.{has_key}
use Rattle.ct_desc_value.proofs.kinds.count_of.Given as goal

abbrev pub invariant-loop-name : goal.invariant-loop-name
invariant-loop-name l = l.count + count_by (λ name. has_key name (data_of l.value)) (map (λ n. n.now) (drop l.name-index l.names)) ≡ count_by (λ name. has_key name (data_of l.value)) (map (λ n. n.now) l.names)
