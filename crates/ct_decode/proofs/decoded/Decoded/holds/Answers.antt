use Rattle.std.proofs.Common.{◌≡◌, slice_index_or, subst}
use Rattle.ct_decode.specs.Reading.{reading_of}
use Rattle.ct_decode.proofs.Slots.{held}
use Rattle.ct_decode.proofs.decoded.Decoded.holds.Goals as goal

pub returns : goal.returns
returns c told =
    subst (λ k. slice_index_or c.args.self.now k (reading_of 0) ≡ reading_of c.args.word) c.slot_of.ensures.is
    (subst (λ rows. slice_index_or rows c.slot_of.result (reading_of 0) ≡ reading_of c.args.word) c.self.view_is
    (held c.self.inside.rows.items c.slot_of.result c.args.word c.index.result.now c.self.invariant.0 c.slot_of.ensures.small c.index.ensures told))
