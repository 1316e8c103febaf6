use Rattle.law_history.proofs.Running.{run_charges, run_charges_follow}
use Rattle.law_history.proofs.quotas_hold.Goals as goal

pub returns : goal.returns
returns g = record {
  limits = λ b s es q parts facts wired k. run_charges b parts facts wired s es q k;
  charges = λ b s es parts facts wired k. run_charges_follow b parts facts wired s es k;
}
