use Rattle.law_accepted.proofs.Lines.{held_over_runs, kept_over_runs}
use Rattle.law_accepted.proofs.allowed.policies_hold_over_runs.Goals as goal

pub returns : goal.returns
returns c = record { lines = kept_over_runs; device = held_over_runs }
