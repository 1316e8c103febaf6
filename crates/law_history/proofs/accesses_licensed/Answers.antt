use Rattle.law_history.proofs.Running.{run_uses_reach, run_within}
use Rattle.law_history.proofs.accesses_licensed.Goals as goal

pub returns : goal.returns
returns g = record {
  reach = λ b s es parts facts wired k. run_uses_reach b parts facts wired s es k;
  within = λ b s es parts facts wired inside k. run_within b parts facts wired s es inside k;
}
