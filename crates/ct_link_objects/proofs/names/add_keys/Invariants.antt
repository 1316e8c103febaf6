use Rattle.std.proofs.Common.{◌≡◌, map, drop}
use Rattle.def_desc.specs.Names.{key_name}
use Rattle.ct_link_objects.specs.Slots.{with_slots}
use Rattle.ct_link_objects.proofs.names.add_keys.Given as goal

abbrev pub invariant-loop-key : goal.invariant-loop-key
invariant-loop-key l = with_slots l.names (map key_name (drop l.key-index l.keys)) ≡ with_slots l.fn.names (map key_name l.keys)
