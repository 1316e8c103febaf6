use Rattle.std.proofs.Common.{sym, ap, ◌∙◌, take, arith}
use Rattle.def_image.specs.Parts.{SlotRow}
use Rattle.def_image.specs.Indexes.{slot_asked, is_import_astray}
use Rattle.law_image.proofs.Walks.{ends}
use Rattle.law_image.proofs.Passing.{one_none}
use Rattle.ct_image_limits.proofs.At.{goes_at, stops_at}
use Rattle.ct_image_parts.proofs.Ones.{one_fails}
use Rattle.ct_image.proofs.indexes.slots_fault.Goals as goal

pub returns-then-is_astray : goal.returns-then-is_astray
returns-then-is_astray c =
    let all = c.args.slots.now in
    let x = c.index-slots-index.result in
    let i = c.loop-index.index in
    let same = ap (λ (s : SlotRow). is_import_astray c.args.parts.now (take i all) s.row) c.slot.view_is in
    sym (stops_at (slot_asked c.args.parts.now) (λ s. 48) c.loop-index.place i all x _ c.loop-index.place c.loop-index-test.true c.index-slots-index.is (one_fails c.loop-index.place _ (sym same ∙ sym c.is_astray.ensures ∙ c.if-is_astray.true)) c.loop-index.invariant.rest)

pub loop-index-preserved : goal.loop-index-preserved
loop-index-preserved c =
    let all = c.args.slots.now in
    let x = c.index-slots-index.result in
    let i = c.loop-index.index in
    let same = ap (λ (s : SlotRow). is_import_astray c.args.parts.now (take i all) s.row) c.slot.view_is in
    record {
      place = omega (arith, c.loop-index.invariant.place);
      rest = goes_at (slot_asked c.args.parts.now) (λ s. 48) c.loop-index.place i all x _ c.loop-index-test.true c.index-slots-index.is (one_none c.loop-index.place _ (sym same ∙ sym c.is_astray.ensures ∙ c.if-is_astray.false)) c.loop-index.invariant.rest;
    }

pub returns : goal.returns
returns c = sym (ends (slot_asked c.args.parts.now) (λ s. 48) c.loop-index.place c.loop-index.index c.args.slots.now _ c.loop-index-test.false c.loop-index.invariant.rest)
