use Rattle.std.proofs.Common.{◌≡◌, map, drop}
use Rattle.def_desc.specs.Rows.{LimportRow}
use Rattle.ct_link_objects.specs.Slots.{with_slots}
use Rattle.ct_link_objects.proofs.names.add_library_slots.Given as goal

abbrev pub invariant-loop-import : goal.invariant-loop-import
invariant-loop-import l = with_slots l.names (map (λ (x : LimportRow). x.alias) (drop l.import-index l.imports)) ≡ with_slots l.fn.names (map (λ (x : LimportRow). x.alias) l.imports)
