use Rattle.law_history.proofs.Alikes.{checks_unread, fetch_unread, instruction_unread}
use Rattle.law_history.proofs.shadows.shadows_unread.Goals as goal

pub returns : goal.returns
returns c = record { checks = checks_unread; fetch = fetch_unread; instruction = instruction_unread }
