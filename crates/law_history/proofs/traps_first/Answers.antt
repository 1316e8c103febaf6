use Rattle.law_history.proofs.Running.{run_traps}
use Rattle.law_history.proofs.traps_first.Goals as goal

pub returns : goal.returns
returns g = run_traps
