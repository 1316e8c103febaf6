use Rattle.std.proofs.Common.{sym, ◌∙◌, arith}
use Rattle.law_image.proofs.Walks.{ends}
use Rattle.ct_image_limits.specs.Owners.{thread_asked}
use Rattle.ct_image_limits.proofs.At.{goes_at, stops_at}
use Rattle.ct_image_limits.proofs.owners.threads_limit.Goals as goal

pub returns-in-Some : goal.returns-in-Some
returns-in-Some c = sym (stops_at (thread_asked c.args.compartments.now c.args.libraries.now) (λ t. 56) c.loop-index.place c.loop-index.index c.args.threads.now c.index-threads-index.result _ c.in-Some.found c.loop-index-test.true c.index-threads-index.is (sym c.thread_limit.ensures ∙ c.in-Some.is) c.loop-index.invariant.rest)

pub loop-index-preserved : goal.loop-index-preserved
loop-index-preserved c = record {
  place = omega (arith, c.loop-index.invariant.place);
  rest = goes_at (thread_asked c.args.compartments.now c.args.libraries.now) (λ t. 56) c.loop-index.place c.loop-index.index c.args.threads.now c.index-threads-index.result _ c.loop-index-test.true c.index-threads-index.is (sym c.thread_limit.ensures ∙ c.in_default.is) c.loop-index.invariant.rest;
}

pub returns : goal.returns
returns c = sym (ends (thread_asked c.args.compartments.now c.args.libraries.now) (λ t. 56) c.loop-index.place c.loop-index.index c.args.threads.now _ c.loop-index-test.false c.loop-index.invariant.rest)
