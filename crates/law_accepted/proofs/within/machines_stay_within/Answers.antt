use Rattle.law_accepted.proofs.Staying.{stays_within}
use Rattle.law_accepted.proofs.within.machines_stay_within.Goals as goal

pub returns : goal.returns
returns g = stays_within
