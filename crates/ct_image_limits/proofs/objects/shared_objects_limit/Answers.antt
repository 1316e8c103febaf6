use Rattle.std.proofs.Common.{sym, ◌∙◌, arith}
use Rattle.def_image.specs.Limits.{shared_limits}
use Rattle.law_image.proofs.Walks.{ends}
use Rattle.ct_image_limits.proofs.At.{goes_at, stops_at}
use Rattle.ct_image_limits.proofs.objects.shared_objects_limit.Goals as goal

pub returns-in-Some : goal.returns-in-Some
returns-in-Some c = sym (stops_at shared_limits (λ x. 40) c.loop-index.place c.loop-index.index c.args.shared.now c.index-shared-index.result _ c.in-Some.found c.loop-index-test.true c.index-shared-index.is (sym c.shared_limit.ensures ∙ c.in-Some.is) c.loop-index.invariant.rest)

pub loop-index-preserved : goal.loop-index-preserved
loop-index-preserved c = record {
  place = omega (arith, c.loop-index.invariant.place);
  rest = goes_at shared_limits (λ x. 40) c.loop-index.place c.loop-index.index c.args.shared.now c.index-shared-index.result _ c.loop-index-test.true c.index-shared-index.is (sym c.shared_limit.ensures ∙ c.in_default.is) c.loop-index.invariant.rest;
}

pub returns : goal.returns
returns c = sym (ends shared_limits (λ x. 40) c.loop-index.place c.loop-index.index c.args.shared.now _ c.loop-index-test.false c.loop-index.invariant.rest)
