use Rattle.std.proofs.Common.{◌≡◌, ◌++◌, map, take}
use Rattle.def_link.specs.Slots.{import_slot}
use Rattle.ct_link_slots.proofs.tables.add_imports.Given as goal

abbrev pub invariant-loop-import : goal.invariant-loop-import
invariant-loop-import l = l.slots.items ≡ l.fn.slots.items ++ map (import_slot l.desc) (take l.import-index l.imports)
