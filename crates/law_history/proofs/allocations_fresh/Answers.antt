use Rattle.law_history.proofs.Running.{run_fresh}
use Rattle.law_history.proofs.allocations_fresh.Goals as goal

pub returns : goal.returns
returns g = λ b s es parts facts wired shut k blank. run_fresh b parts facts wired s es shut k blank
