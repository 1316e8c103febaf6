use Rattle.std.proofs.Common.{◌≡◌, map, drop}
use Rattle.std.specs.List.{list_all}
use Rattle.ct_json.specs.Values.{data_of}
use Rattle.def_desc.specs.Kinds.{has_member}
use Rattle.def_desc.specs.Tables.{row}
use Rattle.ct_desc_value.proofs.kinds.has_each.Given as goal

abbrev pub invariant-loop-name : goal.invariant-loop-name
invariant-loop-name l = list_all (has_member (data_of l.value)) (map (λ r. row r.0.now r.1 r.2) (drop l.name-index l.members)) ≡ list_all (has_member (data_of l.value)) (map (λ r. row r.0.now r.1 r.2) l.members)
