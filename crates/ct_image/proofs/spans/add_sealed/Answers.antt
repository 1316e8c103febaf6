use Rattle.std.proofs.Common.{◌+◌, [], ◌∷◌, ◌++◌, refl, ap, ◌∙◌, arith}
use Rattle.def_image.specs.Parts.{SealedRow}
use Rattle.def_image.specs.Regions.{TrustedPart, region_row}
use Rattle.ct_image_parts.specs.Places.{sealed_bytes}
use Rattle.ct_image_limits.proofs.At.{left_at}
use Rattle.ct_image.specs.Spans.{rows_of, sealed_rows}
use Rattle.ct_image.proofs.Adding.{pushed, adds, added}
use Rattle.ct_image.proofs.spans.add_sealed.Goals as goal

pub loop-object-preserved : goal.loop-object-preserved
loop-object-preserved c =
    let all = c.args.sealed.now in
    let x = c.object-item.result in
    let i = c.loop-object.object-index in
    let at = c.loop-object.place in
    record {
      place = omega (arith, c.loop-object.invariant.place, left_at sealed_bytes i all x (omega arith) c.object-item.is, c.sealed_bytes-place.ensures);
      rows = rw c.sealed_bytes-place.ensures (adds sealed_rows (λ n (s : SealedRow). region_row TrustedPart (n + 32) s.base s.length ∷ []) sealed_bytes (λ n y ys. refl) at i all x (rows_of c.loop-object.spans.items) _ _ (omega arith) c.object-item.is (pushed _ _ _ c.in_ok-push.ensures.items ∙ ap (λ (s : SealedRow). rows_of c.loop-object.spans.items ++ region_row TrustedPart (at + 32) s.base s.length ∷ []) c.object.view_is) c.loop-object.invariant.rows);
    }

pub returns : goal.returns
returns c = added sealed_rows (λ n. refl) c.loop-object.place c.loop-object.object-index c.args.sealed.now _ _ (omega arith) c.loop-object.invariant.rows
