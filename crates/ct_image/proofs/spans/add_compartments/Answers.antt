use Rattle.std.proofs.Common.{refl, arith}
use Rattle.ct_image_parts.specs.Places.{compartment_bytes}
use Rattle.ct_image_limits.proofs.At.{left_at}
use Rattle.ct_image.specs.Spans.{rows_of, three_rows, compartment_rows}
use Rattle.ct_image.proofs.Adding.{adds, added}
use Rattle.ct_image.proofs.spans.add_compartments.Goals as goal

pub loop-compartment-preserved : goal.loop-compartment-preserved
loop-compartment-preserved c =
    let all = c.args.compartments.now in
    let x = c.compartment-item.result in
    let i = c.loop-compartment.compartment-index in
    let at = c.loop-compartment.place in
    record {
      place = omega (arith, c.loop-compartment.invariant.place, left_at compartment_bytes i all x (omega arith) c.compartment-item.is, c.compartment_bytes-place.ensures);
      rows = rw c.compartment_bytes-place.ensures (adds compartment_rows three_rows compartment_bytes (λ n y ys. refl) at i all x (rows_of c.loop-compartment.spans.items) _ _ (omega arith) c.compartment-item.is c.in_ok-add_compartment.ensures c.loop-compartment.invariant.rows);
    }

pub returns : goal.returns
returns c = added compartment_rows (λ n. refl) c.loop-compartment.place c.loop-compartment.compartment-index c.args.compartments.now _ _ (omega arith) c.loop-compartment.invariant.rows
