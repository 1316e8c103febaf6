use Rattle.law_history.proofs.Deriving.{all_derive, all_opened}
use Rattle.law_history.proofs.Holdings.{running_holds}
use Rattle.law_history.proofs.Unopened.{none_jumps}
use Rattle.law_history.proofs.derived.events_derive.Goals as goal

pub returns : goal.returns
returns c = record { comes = all_derive; opened = all_opened; jumps = none_jumps; running = running_holds }
