use Rattle.std.proofs.Common.{sym, ap, subst}
use Rattle.def_image.specs.Parts.{SlotRow}
use Rattle.def_image.specs.Sound.{SlotFits}
use Rattle.ct_entries.specs.Fits.{HasFit}
use Rattle.ct_entries.proofs.Standing.{first_of}
use Rattle.ct_entries.proofs.slots.add_slots.Goals as goal

pub slot_row-requires-clause-fits : goal.slot_row-requires-clause-fits
slot_row-requires-clause-fits c =
    let fits : HasFit c.args.parts.now c.slot-item.result =
    first_of (HasFit c.args.parts.now) c.args.slots.now c.loop-slot.slot-index c.slot-item.result c.loop-slot-test.true c.slot-item.is c.loop-slot.invariant.2 in
    subst (λ r. SlotFits c.args.parts.now r) (sym (ap (λ (s : SlotRow). s.row) c.slot.view_is)) fits
