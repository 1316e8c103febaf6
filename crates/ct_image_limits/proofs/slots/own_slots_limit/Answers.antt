use Rattle.std.proofs.Common.{sym, ◌∙◌, ◌≡◌, ◌*◌, ◌+◌, arith, []}
use Rattle.def_image.specs.Limits.{own_slot_limits}
use Rattle.law_image.proofs.Walks.{goes_on, stops, ends}
use Rattle.ct_image_limits.proofs.slots.own_slots_limit.Goals as goal

pub returns-in-Some : goal.returns-in-Some
returns-in-Some c = sym (stops own_slot_limits (λ x. 48) c.loop-index.place c.loop-index.index c.args.slots.now (record { row = []; name = [] }) _ c.in-Some.found c.loop-index-test.true (sym c.own_slot_limit.ensures ∙ c.in-Some.is) c.loop-index.invariant.rest)

pub loop-index-preserved : goal.loop-index-preserved
loop-index-preserved c = record {
  place = omega (arith, c.loop-index.invariant.place);
  rest = goes_on own_slot_limits (λ x. 48) c.loop-index.place c.loop-index.index c.args.slots.now (record { row = []; name = [] }) _ c.loop-index-test.true (sym c.own_slot_limit.ensures ∙ c.in_default.is) c.loop-index.invariant.rest;
}

pub returns : goal.returns
returns c = sym (ends own_slot_limits (λ x. 48) c.loop-index.place c.loop-index.index c.args.slots.now _ c.loop-index-test.false c.loop-index.invariant.rest)
