use Rattle.std.proofs.Common.{◌+◌, [], ◌∷◌, ◌++◌, refl, ap, ◌∙◌, arith}
use Rattle.def_image.specs.Parts.{SharedRow}
use Rattle.def_image.specs.Regions.{TrustedPart, region_row}
use Rattle.ct_image.specs.Spans.{rows_of, shared_rows}
use Rattle.ct_image.proofs.Adding.{pushed, adds, added}
use Rattle.ct_image.proofs.spans.add_shared.Goals as goal

pub loop-object-preserved : goal.loop-object-preserved
loop-object-preserved c =
    let all = c.args.shared.now in
    let x = c.object-item.result in
    let i = c.loop-object.object-index in
    let at = c.loop-object.place in
    record {
      place = omega (arith, c.loop-object.invariant.place);
      rows = (adds shared_rows (λ n (s : SharedRow). region_row TrustedPart (n + 32) s.base s.length ∷ []) (λ s. 40) (λ n y ys. refl) at i all x (rows_of c.loop-object.spans.items) _ _ (omega arith) c.object-item.is (pushed _ _ _ c.in_ok-push.ensures.items ∙ ap (λ (s : SharedRow). rows_of c.loop-object.spans.items ++ region_row TrustedPart (at + 32) s.base s.length ∷ []) c.object.view_is) c.loop-object.invariant.rows);
    }

pub returns : goal.returns
returns c = added shared_rows (λ n. refl) c.loop-object.place c.loop-object.object-index c.args.shared.now _ _ (omega arith) c.loop-object.invariant.rows
