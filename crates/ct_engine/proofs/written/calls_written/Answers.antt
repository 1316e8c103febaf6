use Rattle.ct_engine.proofs.AsWritten.{comes_is, enters_is}
use Rattle.ct_engine.proofs.written.calls_written.Goals as goal

pub returns-clause-comes : goal.returns-clause-comes
returns-clause-comes c = comes_is

pub returns-clause-enters : goal.returns-clause-enters
returns-clause-enters c = enters_is
