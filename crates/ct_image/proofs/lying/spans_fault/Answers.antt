use Rattle.std.proofs.Common.{sym, ◌∙◌}
use Rattle.ct_image.specs.Lain.{span_asked}
use Rattle.law_image.proofs.Walks.{goes_on, stops, ends}
use Rattle.law_image.proofs.Passing.{one_none}
use Rattle.ct_image_parts.proofs.Ones.{one_fails}
use Rattle.ct_image.proofs.lying.spans_fault.Goals as goal

pub returns-then-is_span_astray : goal.returns-then-is_span_astray
returns-then-is_span_astray c =
    sym (stops (span_asked c.args.parts.now c.args.trusted) (λ s. 0) 0 c.loop-index.index c.args.spans.now (record { place = 0; base = 0; length = 0 }) _ _ c.loop-index-test.true
    (one_fails _ _ (sym c.is_span_astray.ensures ∙ c.if-is_span_astray.true)) c.loop-index.invariant)

pub loop-index-preserved : goal.loop-index-preserved
loop-index-preserved c =
    goes_on (span_asked c.args.parts.now c.args.trusted) (λ s. 0) 0 c.loop-index.index c.args.spans.now (record { place = 0; base = 0; length = 0 }) _ c.loop-index-test.true
    (one_none _ _ (sym c.is_span_astray.ensures ∙ c.if-is_span_astray.false)) c.loop-index.invariant

pub returns : goal.returns
returns c = sym (ends (span_asked c.args.parts.now c.args.trusted) (λ s. 0) 0 c.loop-index.index c.args.spans.now _ c.loop-index-test.false c.loop-index.invariant)
