use Rattle.law_image.proofs.Faults.{no_fault, one_fault}
use Rattle.law_image.proofs.one_answer.Goals as goal

pub returns-clause-image : goal.returns-clause-image
returns-clause-image c = no_fault

pub returns-clause-fault : goal.returns-clause-fault
returns-clause-fault c = one_fault
