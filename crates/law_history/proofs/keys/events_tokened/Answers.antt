use Rattle.law_history.proofs.TokensEvents.{event_fit}
use Rattle.law_history.proofs.Whole.{event_tokened}
use Rattle.law_history.proofs.keys.events_tokened.Goals as goal

pub returns : goal.returns
returns c = record { rows = event_fit; tokens = event_tokened }
