use Rattle.ct_decode.proofs.Slots.{kept_read, row_read}
use Rattle.ct_decode.proofs.decoded.Decoded.fill.Goals as goal

pub reading_beside-reading-requires : goal.reading_beside-reading-requires
reading_beside-reading-requires c = row_read c.self.inside.beside.items c.slot_of-slot.result c.index.result.now c.self.invariant.1 c.slot_of-slot.ensures.small c.index.ensures

pub invariant_of-self : goal.invariant_of-self
invariant_of-self c = (
  kept_read c.self.inside.rows.items c.slot_of-slot.result c.reading_beside-reading.result c.self.invariant.0 c.reading_beside-reading.ensures.read,
  kept_read c.self.inside.beside.items c.slot_of-slot.result c.index-2.result.now c.self.invariant.1
      (row_read c.self.inside.rows.items c.slot_of-slot.result c.index-2.result.now c.self.invariant.0 c.slot_of-slot.ensures.small c.index-2.ensures),
)
