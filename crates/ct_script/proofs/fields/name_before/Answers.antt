use Rattle.std.proofs.Common.{arith}
use Rattle.ct_script.proofs.Parts.{name_read_at}
use Rattle.ct_script.proofs.fields.name_before.Goals as goal

pub returns : goal.returns
returns c = name_read_at c.args.text.now c.run_length-place.result c.run_length-place.ensures.is (omega arith) (omega arith) (omega arith)
