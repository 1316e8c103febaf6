use Rattle.law_history.proofs.Running.{run_swept}
use Rattle.law_history.proofs.Waiting.{leaves, paints, reuse}
use Rattle.law_history.proofs.reuse.sweep_before_reuse.Goals as goal

pub returns : goal.returns
returns c = record {
  chunks = λ b s parts facts wired shut k blank. run_swept b parts facts wired s shut k blank;
  objects = reuse;
  leaves = leaves;
  paints = paints;
}
