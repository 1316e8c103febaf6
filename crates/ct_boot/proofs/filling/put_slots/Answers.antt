use Rattle.std.proofs.Common.{◌+◌, ◌*◌, ◌∙◌, ap, sym, subst, arith}
use Rattle.def_image.specs.Sound.{SlotFits}
use Rattle.ct_boot.specs.Slots.{slot_cap}
use Rattle.ct_boot.proofs.Made.{puts_at, slot_at}
use Rattle.ct_boot.proofs.Ranges.{granule_at, next_granule}
use Rattle.ct_boot.proofs.filling.put_slots.Goals as goal

pub slot_made-cap-requires-clause-fits : goal.slot_made-cap-requires-clause-fits
slot_made-cap-requires-clause-fits g c =
    let put = slot_at _ _ c.args.code.now _ _ _ c.requires.slots (ap (λ d. d.slots) c.code.view_is) (omega (arith, c.loop-index-test.true, c.len-index-end.ensures)) c.index-slot.ensures in
    subst (SlotFits c.args.parts.now) (sym (ap (λ s. s.row) c.slot.view_is)) put.fits

pub put-requires-clause-puts : goal.put-requires-clause-puts
put-requires-clause-puts g c =
    let put = slot_at _ _ c.args.code.now _ _ _ c.requires.slots (ap (λ d. d.slots) c.code.view_is) (omega (arith, c.loop-index-test.true, c.len-index-end.ensures)) c.index-slot.ensures in
    let base = ap (λ d. d.base) c.code.view_is in
    let row = ap (λ s. s.row) c.slot.view_is in
    puts_at _ _ _ _ _ put.puts (ap (λ b. b + 8 * c.loop-index.index) base)
    (c.slot_made-cap.ensures put.owner ∙ ap (λ b. slot_cap c.args.parts.now put.owner (c.args.first + c.loop-index.index) (b + 8 * c.loop-index.index) c.slot.inside.row) base
    ∙ ap (slot_cap c.args.parts.now put.owner (c.args.first + c.loop-index.index) (c.args.code.now.base + 8 * c.loop-index.index)) row)

pub loop-index-preserved : goal.loop-index-preserved
loop-index-preserved g c =
    let put = slot_at _ _ c.args.code.now _ _ _ c.requires.slots (ap (λ d. d.slots) c.code.view_is) (omega (arith, c.loop-index-test.true, c.len-index-end.ensures)) c.index-slot.ensures in
    next_granule c.args.parts.now _ _ _ c.args.code.now.base c.loop-index.index put.puts.even c.loop-index.invariant
    (granule_at c.args.parts.now _ _ _ (c.args.code.now.base + 8 * c.loop-index.index) c.put.ensures (ap (λ d. d.base + 8 * c.loop-index.index) (sym c.code.view_is)))
