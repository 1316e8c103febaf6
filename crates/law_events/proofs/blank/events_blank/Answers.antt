use Rattle.law_events.proofs.BlankEvents.{event_blank}
use Rattle.law_events.proofs.Hiding.{heap_zero}
use Rattle.law_events.proofs.blank.events_blank.Goals as goal

pub returns : goal.returns
returns c = record { event = event_blank; heap = heap_zero }
