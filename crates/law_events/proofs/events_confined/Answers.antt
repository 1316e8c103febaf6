use Rattle.law_events.proofs.Events.{event_keeps}
use Rattle.law_events.proofs.Running.{run_keeps}
use Rattle.law_events.proofs.events_confined.Goals as goal

pub returns : goal.returns
returns c = record { one = event_keeps; all = run_keeps }
