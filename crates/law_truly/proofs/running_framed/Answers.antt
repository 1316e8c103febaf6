use Rattle.law_truly.proofs.Running as laws
use Rattle.law_truly.proofs.Whole.{boots_framed}
use Rattle.law_truly.proofs.running_framed.Goals as goal

pub returns : goal.returns
returns c = record { kept = laws.event_framed; picked = laws.ready_framed; boots = boots_framed }
