use Rattle.law_history.proofs.Running.{run_uses_live, run_unused}
use Rattle.law_history.proofs.freed_unused.Goals as goal

pub returns : goal.returns
returns g = record {
  rows = λ b s es parts facts wired k. run_uses_live b parts facts wired s es k;
  deeds = λ b s parts facts wired k. run_unused b parts facts wired s k;
}
