use Rattle.std.proofs.Common.{◌≡◌, ◌++◌, drop, map}
use Rattle.def_report.specs.Labels.{slot_label as slot_label_of}
use Rattle.ct_report.specs.Shown.{shown}
use Rattle.ct_report.proofs.labels.add_slots.Given as goal

abbrev pub invariant-loop-slot : goal.invariant-loop-slot
invariant-loop-slot l = shown l.labels.items ++ map (slot_label_of l.parts l.owner) (drop l.slot-index l.slots) ≡ shown l.fn.labels.items ++ map (slot_label_of l.parts l.owner) l.slots
