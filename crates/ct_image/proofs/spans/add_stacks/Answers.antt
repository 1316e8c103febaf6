use Rattle.std.proofs.Common.{◌+◌, [], ◌∷◌, ◌++◌, refl, ap, ◌∙◌, arith}
use Rattle.def_image.specs.Parts.{ThreadRow}
use Rattle.def_image.specs.Regions.{TrustedPart, region_row}
use Rattle.ct_image.specs.Spans.{rows_of, stack_rows}
use Rattle.ct_image.proofs.Adding.{pushed, adds, added}
use Rattle.ct_image.proofs.spans.add_stacks.Goals as goal

pub loop-thread-preserved : goal.loop-thread-preserved
loop-thread-preserved c =
    let all = c.args.threads.now in
    let x = c.thread-item.result in
    let i = c.loop-thread.thread-index in
    let at = c.loop-thread.place in
    record {
      place = omega (arith, c.loop-thread.invariant.place);
      rows = (adds stack_rows (λ n (s : ThreadRow). region_row TrustedPart (n + 32) s.stack s.stack_length ∷ []) (λ s. 56) (λ n y ys. refl) at i all x (rows_of c.loop-thread.spans.items) _ _ (omega arith) c.thread-item.is (pushed _ _ _ c.in_ok-push.ensures.items ∙ ap (λ (s : ThreadRow). rows_of c.loop-thread.spans.items ++ region_row TrustedPart (at + 32) s.stack s.stack_length ∷ []) c.thread.view_is) c.loop-thread.invariant.rows);
    }

pub returns : goal.returns
returns c = added stack_rows (λ n. refl) c.loop-thread.place c.loop-thread.thread-index c.args.threads.now _ _ (omega arith) c.loop-thread.invariant.rows
