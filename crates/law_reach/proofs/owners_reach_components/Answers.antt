use Rattle.law_reach.proofs.Joins.{components}
use Rattle.law_reach.proofs.owners_reach_components.Goals as goal

pub returns : goal.returns
returns c = λ e. components e
