use Rattle.std.proofs.Common.{sym, ap, ◌∙◌, ◌+◌, not, arith}
use Rattle.def_image.specs.Indexes.{thread_asked}
use Rattle.law_image.proofs.Walks.{ends}
use Rattle.law_image.proofs.Passing.{one_none}
use Rattle.ct_image_limits.proofs.At.{goes_at, stops_at}
use Rattle.ct_image_parts.proofs.Ones.{one_fails}
use Rattle.ct_image.proofs.indexes.threads_fault.Goals as goal

pub returns-then-not-enters : goal.returns-then-not-enters
returns-then-not-enters c =
    let all = c.args.threads.now in
    let x = c.index-threads-index.result in
    sym (stops_at (thread_asked c.args.parts.now) (λ s. 56) c.loop-index.place c.loop-index.index all x _ (c.loop-index.place + 40) c.loop-index-test.true c.index-threads-index.is
    (one_fails (c.loop-index.place + 40) _ (ap not (sym c.enters.ensures ∙ c.if-not-enters.true))) c.loop-index.invariant.rest)

pub loop-index-preserved : goal.loop-index-preserved
loop-index-preserved c =
    let all = c.args.threads.now in
    let x = c.index-threads-index.result in
    record {
      place = omega (arith, c.loop-index.invariant.place);
      rest = goes_at (thread_asked c.args.parts.now) (λ s. 56) c.loop-index.place c.loop-index.index all x _ c.loop-index-test.true c.index-threads-index.is
          (one_none (c.loop-index.place + 40) _ (ap not (sym c.enters.ensures ∙ c.if-not-enters.false))) c.loop-index.invariant.rest;
    }

pub returns : goal.returns
returns c = sym (ends (thread_asked c.args.parts.now) (λ s. 56) c.loop-index.place c.loop-index.index c.args.threads.now _ c.loop-index-test.false c.loop-index.invariant.rest)
