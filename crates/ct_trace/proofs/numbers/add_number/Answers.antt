use Rattle.std.proofs.Common.{◌++◌, sym, ap, ◌∙◌, arith}
use Rattle.std.proofs.lemmas.Fmt.{decimal_digit}
use Rattle.ct_trace.proofs.numbers.add_number.Goals as goal

pub returns-then-number-lt10-clause-bytes : goal.returns-then-number-lt10-clause-bytes
returns-then-number-lt10-clause-bytes c = c.push.ensures.ascii (omega arith) ∙ ap (λ ds. c.args.line.now.bytes ++ ds) (sym (decimal_digit c.args.number c.if-number-lt10.true))
