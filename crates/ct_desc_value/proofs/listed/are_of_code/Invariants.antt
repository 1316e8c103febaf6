use Rattle.std.proofs.Common.{◌≡◌}
use Rattle.def_desc.specs.Kinds.{all_among}
use Rattle.def_desc.specs.Tables.{code_names}
use Rattle.ct_json.specs.Values.{keys_left}
use Rattle.ct_desc_value.proofs.listed.are_of_code.Given as goal

abbrev pub invariant-loop-key : goal.invariant-loop-key
invariant-loop-key l = all_among code_names (keys_left l.key-iterator) ≡ all_among code_names (keys_left l.initial.key-iterator)
