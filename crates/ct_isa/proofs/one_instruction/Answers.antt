use Rattle.ct_isa.proofs.Complete.{one_instruction}
use Rattle.ct_isa.proofs.one_instruction.Goals as goal

pub returns : goal.returns
returns c = one_instruction
