use Rattle.law_program.proofs.Written.{run_written}
use Rattle.law_program.proofs.commands.written_runs_are_safe.Goals as goal

pub returns : goal.returns
returns c = run_written
