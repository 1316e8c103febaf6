use Rattle.std.proofs.Common.{◌+◌, [], ◌∷◌, ◌++◌, refl, ap, ◌∙◌, arith}
use Rattle.def_image.specs.Parts.{CodeRow}
use Rattle.def_image.specs.Regions.{TrustedPart, region_row}
use Rattle.ct_image_parts.specs.Places.{library_bytes}
use Rattle.ct_image_limits.proofs.At.{left_at}
use Rattle.ct_image.specs.Spans.{rows_of, library_rows}
use Rattle.ct_image.proofs.Adding.{pushed, adds, added}
use Rattle.ct_image.proofs.spans.add_libraries.Goals as goal

pub loop-library-preserved : goal.loop-library-preserved
loop-library-preserved c =
    let all = c.args.libraries.now in
    let x = c.library-item.result in
    let i = c.loop-library.library-index in
    let at = c.loop-library.place in
    record {
      place = omega (arith, c.loop-library.invariant.place, left_at library_bytes i all x (omega arith) c.library-item.is, c.library_bytes-place.ensures);
      rows = rw c.library_bytes-place.ensures (adds library_rows (λ n (s : CodeRow). region_row TrustedPart (n + 32) s.base s.length ∷ []) library_bytes (λ n y ys. refl) at i all x (rows_of c.loop-library.spans.items) _ _ (omega arith) c.library-item.is (pushed _ _ _ c.in_ok-push.ensures.items ∙ ap (λ (s : CodeRow). rows_of c.loop-library.spans.items ++ region_row TrustedPart (at + 32) s.base s.length ∷ []) c.library.view_is) c.loop-library.invariant.rows);
    }

pub returns : goal.returns
returns c = added library_rows (λ n. refl) c.loop-library.place c.loop-library.library-index c.args.libraries.now _ _ (omega arith) c.loop-library.invariant.rows
