use Rattle.law_events.proofs.Seeing.{register_sees, counter_sees}
use Rattle.law_events.proofs.shut.accesses_seen.Goals as goal

pub returns : goal.returns
returns c = record { registers = register_sees; fetches = counter_sees }
