use Rattle.std.proofs.Common.{sym, ap, ◌∙◌, not, arith}
use Rattle.def_image.specs.Parts.{SlotRow}
use Rattle.def_image.specs.Rights.{right_asked, fits_kind, rights_of}
use Rattle.law_image.proofs.Walks.{ends}
use Rattle.law_image.proofs.Passing.{one_none}
use Rattle.ct_image_limits.proofs.At.{goes_at, stops_at}
use Rattle.ct_image_parts.proofs.Ones.{one_fails}
use Rattle.ct_image.proofs.rights.own_slots_fault.Goals as goal

pub returns-then-not-is_right : goal.returns-then-not-is_right
returns-then-not-is_right c =
    let all = c.args.slots.now in
    let x = c.index-slots-index.result in
    let i = c.loop-index.index in
    let same = ap (λ (s : SlotRow). fits_kind s.row.kind (rights_of s.row)) c.slot.view_is in
    sym (stops_at right_asked (λ s. 48) c.loop-index.place i all x _ c.loop-index.place c.loop-index-test.true c.index-slots-index.is (one_fails c.loop-index.place _ (ap not (sym same ∙ sym c.is_right.ensures ∙ c.if-not-is_right.true))) c.loop-index.invariant.rest)

pub loop-index-preserved : goal.loop-index-preserved
loop-index-preserved c =
    let all = c.args.slots.now in
    let x = c.index-slots-index.result in
    let i = c.loop-index.index in
    let same = ap (λ (s : SlotRow). fits_kind s.row.kind (rights_of s.row)) c.slot.view_is in
    record {
      place = omega (arith, c.loop-index.invariant.place);
      rest = goes_at right_asked (λ s. 48) c.loop-index.place i all x _ c.loop-index-test.true c.index-slots-index.is (one_none c.loop-index.place _ (ap not (sym same ∙ sym c.is_right.ensures ∙ c.if-not-is_right.false))) c.loop-index.invariant.rest;
    }

pub returns : goal.returns
returns c = sym (ends right_asked (λ s. 48) c.loop-index.place c.loop-index.index c.args.slots.now _ c.loop-index-test.false c.loop-index.invariant.rest)
