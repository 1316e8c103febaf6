use Rattle.std.proofs.Common.{[], sym, ◌∙◌, ◌+◌, ◌≡◌, take, length, arith}
use Rattle.std.proofs.lemmas.List.{length-take}
use Rattle.def_image.specs.Limits.{export_limits}
use Rattle.law_image.proofs.Walks.{goes_on, stops, ends}
use Rattle.ct_image_limits.specs.Owners.{bounds_of}
use Rattle.ct_image_limits.proofs.slots.exports_limit.Goals as goal

pub returns-in-Some : goal.returns-in-Some
returns-in-Some c =
    let all = c.args.exports.now in
    let i = c.loop-index.index in
    let seen : c.args.entry + i ≡ c.args.entry + length (take i all) = omega (arith, length-take i all, c.loop-index-test.true) in
    sym (stops (export_limits (bounds_of c.args.bounds) c.args.text c.args.entry) (λ x. 48) c.loop-index.place i all (record { row = []; name = [] }) _ c.in-Some.found c.loop-index-test.true (sym (c.export_limit.ensures c.args.entry seen) ∙ c.in-Some.is) c.loop-index.invariant.rest)

pub loop-index-preserved : goal.loop-index-preserved
loop-index-preserved c =
    let all = c.args.exports.now in
    let i = c.loop-index.index in
    let seen : c.args.entry + i ≡ c.args.entry + length (take i all) = omega (arith, length-take i all, c.loop-index-test.true) in
    record {
      place = omega (arith, c.loop-index.invariant.place);
      rest = goes_on (export_limits (bounds_of c.args.bounds) c.args.text c.args.entry) (λ x. 48) c.loop-index.place i all (record { row = []; name = [] }) _ c.loop-index-test.true (sym (c.export_limit.ensures c.args.entry seen) ∙ c.in_default.is) c.loop-index.invariant.rest;
    }

pub returns : goal.returns
returns c = sym (ends (export_limits (bounds_of c.args.bounds) c.args.text c.args.entry) (λ x. 48) c.loop-index.place c.loop-index.index c.args.exports.now _ c.loop-index-test.false c.loop-index.invariant.rest)
