use Rattle.law_paths.proofs.There.{there}
use Rattle.law_paths.proofs.paths_are_there.Goals as goal

pub returns : goal.returns
returns c = there
