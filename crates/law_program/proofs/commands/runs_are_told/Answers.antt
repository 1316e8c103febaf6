use Rattle.law_program.proofs.Telling.{run_is_told}
use Rattle.law_program.proofs.commands.runs_are_told.Goals as goal

pub returns : goal.returns
returns c = run_is_told
