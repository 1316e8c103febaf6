use Rattle.law_moves.proofs.Ending.{ends_clean}
use Rattle.law_moves.proofs.sweeps.sweeps_end_clean.Goals as goal

pub returns : goal.returns
returns c = ends_clean
