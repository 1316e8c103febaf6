use Rattle.std.proofs.Common.{arith}
use Rattle.ct_image_fields.proofs.Readings.{is_found, is_unspelled, is_only}
use Rattle.ct_image_fields.proofs.reading.read.Goals as goal

pub returns-clause-fields : goal.returns-clause-fields
returns-clause-fields c = is_found c.args.bytes.now c.all_of.result (λ i. omega (arith, c.type_inv.bytes i)) c.all_of.ensures

pub returns-clause-unspelled : goal.returns-clause-unspelled
returns-clause-unspelled c = is_unspelled c.args.bytes.now c.all_of.result c.all_of.ensures

pub returns-clause-only : goal.returns-clause-only
returns-clause-only c = is_only c.args.bytes.now c.all_of.result c.all_of.ensures
