use Rattle.law_program.proofs.Deciding.{decides}
use Rattle.law_program.proofs.answers.told_files_decide.Goals as goal

pub returns : goal.returns
returns c = decides
