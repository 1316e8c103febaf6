use Rattle.ct_engine.proofs.AsWritten.{back_is, value_is, last_is}
use Rattle.ct_engine.proofs.written.ends_written.Goals as goal

pub returns-clause-back : goal.returns-clause-back
returns-clause-back c = back_is

pub returns-clause-value : goal.returns-clause-value
returns-clause-value c = value_is

pub returns-clause-last : goal.returns-clause-last
returns-clause-last c = last_is
