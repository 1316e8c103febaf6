use Rattle.law_history.proofs.Running.{run_clean}
use Rattle.law_history.proofs.calls_clean.Goals as goal

pub returns : goal.returns
returns g = λ b s es parts facts wired k. run_clean b parts facts wired s es k
