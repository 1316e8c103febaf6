-- Each row of the table is read back, so a word from which nothing is read has no row.
use Rattle.std.proofs.Common.{◌∙◌}
use Rattle.ct_isa.proofs.Complete.{complete, nothing_read, read_encodes}
use Rattle.ct_isa.proofs.decode.Goals as goal

pub returns-clause-only : goal.returns-clause-only
returns-clause-only c = λ i e. c.by_opcode.ensures.value ∙ complete i c.args.word e

pub returns-clause-none : goal.returns-clause-none
returns-clause-none c = λ none i e. nothing_read c.by_opcode.result i none (c.by_opcode.ensures.value ∙ complete i c.args.word e)

pub returns-clause-reading : goal.returns-clause-reading
returns-clause-reading c = λ i. (
  λ e. read_encodes c.by_opcode.result i c.args.word c.by_opcode.ensures.found (c.by_opcode.ensures.value ∙ e),
  λ e. complete i c.args.word e,
)
