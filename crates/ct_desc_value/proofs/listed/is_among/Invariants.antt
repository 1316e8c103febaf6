use Rattle.std.proofs.Common.{◌≡◌, map, drop}
use Rattle.std.specs.List.{list_any}
use Rattle.std.specs.Prelude.{bytes_eq}
use Rattle.def_desc.specs.Tables.{row}
use Rattle.ct_desc_value.proofs.listed.is_among.Given as goal

abbrev pub invariant-loop-member : goal.invariant-loop-member
invariant-loop-member l = list_any (λ m. bytes_eq l.name m.name) (map (λ r. row r.0.now r.1 r.2) (drop l.member-index l.members)) ≡ list_any (λ m. bytes_eq l.name m.name) (map (λ r. row r.0.now r.1 r.2) l.members)
