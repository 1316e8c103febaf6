use Rattle.law_truly.proofs.FailedChecks.{fails_trap}
use Rattle.law_truly.proofs.Instructions as laws
use Rattle.law_truly.proofs.ThreadEnds.{ends_thread}
use Rattle.law_truly.proofs.steps_do_no_more.Goals as goal

pub returns : goal.returns
returns c = record { traps = fails_trap; instructions = laws.instructions_keep; ends = ends_thread }
