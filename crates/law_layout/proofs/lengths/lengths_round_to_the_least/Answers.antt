use Rattle.law_layout.proofs.Rounding.{rounded_above, rounded_exact, rounded_least}
use Rattle.law_layout.proofs.lengths.lengths_round_to_the_least.Goals as goal

pub returns-clause-above : goal.returns-clause-above
returns-clause-above c = rounded_above

pub returns-clause-exact : goal.returns-clause-exact
returns-clause-exact c = rounded_exact

pub returns-clause-least : goal.returns-clause-least
returns-clause-least c = rounded_least
