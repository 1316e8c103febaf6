use Rattle.law_history.proofs.Running.{run_upholds}
use Rattle.law_history.proofs.events_safe.Goals as goal

pub returns : goal.returns
returns g = λ b s es parts facts wired inside shut k blank rows held. run_upholds b parts facts wired s es inside shut k blank rows held
