use Rattle.law_events.proofs.Events.{deed_licensed, span_licensed}
use Rattle.law_events.proofs.Running.{told_licensed}
use Rattle.law_events.proofs.events_licensed.Goals as goal

pub returns : goal.returns
returns c = record { deeds = deed_licensed; spans = span_licensed; all = told_licensed }
