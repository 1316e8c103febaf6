use Rattle.law_program.proofs.Ending.{completes, constant, demo_completes, misuse, no_fault}
use Rattle.law_program.proofs.answers.completes.Goals as goal

pub returns : goal.returns
returns c = record { files = completes; demo = demo_completes; words = misuse; steady = no_fault; counts = constant }
