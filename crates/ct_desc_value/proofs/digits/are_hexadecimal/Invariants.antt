use Rattle.std.proofs.Common.{◌≡◌, drop}
use Rattle.std.specs.List.{list_all}
use Rattle.def_desc.specs.Kinds.{is_lower_hexadecimal}
use Rattle.ct_desc_value.proofs.digits.are_hexadecimal.Given as goal

abbrev pub invariant-loop-b : goal.invariant-loop-b
invariant-loop-b l = list_all is_lower_hexadecimal (drop l.b-index l.text) ≡ list_all is_lower_hexadecimal l.text
