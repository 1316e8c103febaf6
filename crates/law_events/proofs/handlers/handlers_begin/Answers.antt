use Rattle.law_events.proofs.Begins.{due, due_enters}
use Rattle.law_events.proofs.Whole.{handler_begins, handler_keeps}
use Rattle.law_events.proofs.handlers.handlers_begin.Goals as goal

pub returns : goal.returns
returns c = record { due = λ i s t f. (due i s t f, due_enters i s t f); keeps = handler_keeps; begins = handler_begins }
