use Rattle.std.proofs.Common.{◌≡◌, map, drop}
use Rattle.std.specs.List.{list_any}
use Rattle.ct_json.specs.Values.{data_of}
use Rattle.def_desc.specs.Members.{has_key}
use Rattle.ct_desc_value.proofs.kinds.has_any.Given as goal

abbrev pub invariant-loop-name : goal.invariant-loop-name
invariant-loop-name l = list_any (λ name. has_key name (data_of l.value)) (map (λ n. n.now) (drop l.name-index l.names)) ≡ list_any (λ name. has_key name (data_of l.value)) (map (λ n. n.now) l.names)
