use Rattle.law_routines.proofs.Events.{event_settles, run_settles}
use Rattle.law_routines.proofs.settled.events_settle.Goals as goal

pub returns : goal.returns
returns c = record { one = event_settles; all = run_settles }
