use Rattle.std.proofs.Common.{◌≡◌, ◌+◌, ◌*◌, ◌++◌, drop}
use Rattle.std.specs.List.{AllByRecursion}
use Rattle.def_boot.specs.Entries.{slot_rows}
use Rattle.ct_entries.specs.Fits.{HasFit}
use Rattle.ct_entries.proofs.slots.add_slots.Given as goal

abbrev pub invariant-loop-slot : goal.invariant-loop-slot
invariant-loop-slot l = (l.rows.items ++ slot_rows l.parts l.owner l.place (drop l.slot-index l.slots) ≡ l.fn.rows.items ++ slot_rows l.parts l.owner l.at l.slots)
    × (l.place ≡ l.at + 8 * l.slot-index)
    × AllByRecursion (HasFit l.parts) (drop l.slot-index l.slots)
