use Rattle.ct_texts.proofs.Digits.{no_text, refused, spelled_otherwise}
use Rattle.ct_texts.proofs.decimal.number_spelled.Goals as goal

pub returns-in-Err-parse : goal.returns-in-Err-parse
returns-in-Err-parse c = λ n small. refused n c.args.digits.now c.in-Ok.text.now c.parse.result _ small c.in-Ok.ensures.cases.0 c.parse.ensures.value.0 c.in-Err-parse.is

pub returns-in-Err : goal.returns-in-Err
returns-in-Err c = λ n small. no_text n c.args.digits.now small c.in-Err.ensures.cases.0

pub returns-else-is_spelled : goal.returns-else-is_spelled
returns-else-is_spelled c = λ n small. spelled_otherwise n c.in-Ok-parse.number c.args.digits.now c.in-Ok.text.now c.parse.result small c.in-Ok.ensures.cases.0 c.parse.ensures.value.0 c.in-Ok-parse.is c.if-is_spelled.ensures
