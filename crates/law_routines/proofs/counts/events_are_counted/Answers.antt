use Rattle.law_routines.proofs.Counted.{event_kinds, run_kinds}
use Rattle.law_routines.proofs.counts.events_are_counted.Goals as goal

pub returns : goal.returns
returns c = record { one = event_kinds; all = run_kinds }
