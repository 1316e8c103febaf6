use Rattle.std.proofs.Common.{sym, ◌∙◌, arith}
use Rattle.def_image.specs.Limits.{sealed_limits}
use Rattle.def_image.specs.Sizes.{sealed_size}
use Rattle.law_image.proofs.Walks.{ends}
use Rattle.ct_image_limits.proofs.At.{goes_at, stops_at, left_at}
use Rattle.ct_image_limits.proofs.objects.sealed_objects_limit.Goals as goal

pub returns-in-Some : goal.returns-in-Some
returns-in-Some c = sym (stops_at sealed_limits sealed_size c.loop-index.place c.loop-index.index c.args.sealed.now c.index-sealed-index.result _ c.in-Some.found c.loop-index-test.true c.index-sealed-index.is (sym c.sealed_limit.ensures ∙ c.in-Some.is) c.loop-index.invariant.rest)

pub loop-index-preserved : goal.loop-index-preserved
loop-index-preserved c =
    let left = left_at sealed_size c.loop-index.index c.args.sealed.now c.index-sealed-index.result c.loop-index-test.true c.index-sealed-index.is in
    record {
      place = omega (arith, c.loop-index.invariant.place, left, c.sealed_size-place.ensures);
      rest = rw c.sealed_size-place.ensures (goes_at sealed_limits sealed_size c.loop-index.place c.loop-index.index c.args.sealed.now c.index-sealed-index.result _ c.loop-index-test.true c.index-sealed-index.is (sym c.sealed_limit.ensures ∙ c.in_default.is) c.loop-index.invariant.rest);
    }

pub returns : goal.returns
returns c = sym (ends sealed_limits sealed_size c.loop-index.place c.loop-index.index c.args.sealed.now _ c.loop-index-test.false c.loop-index.invariant.rest)
