use Rattle.std.proofs.Common.{◌≡◌, ◌++◌, map, take}
use Rattle.def_link.specs.Slots.{key_slot}
use Rattle.ct_link_slots.proofs.tables.add_keys.Given as goal

abbrev pub invariant-loop-key : goal.invariant-loop-key
invariant-loop-key l = l.slots.items ≡ l.fn.slots.items ++ map key_slot (take l.key-index l.keys)
