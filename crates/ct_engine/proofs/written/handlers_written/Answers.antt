use Rattle.ct_engine.proofs.AsWritten.{handled_comes, handler_enters, handler_stays}
use Rattle.ct_engine.proofs.written.handlers_written.Goals as goal

pub returns-clause-comes : goal.returns-clause-comes
returns-clause-comes c = handled_comes

pub returns-clause-enters : goal.returns-clause-enters
returns-clause-enters c = handler_enters

pub returns-clause-stays : goal.returns-clause-stays
returns-clause-stays c = handler_stays
