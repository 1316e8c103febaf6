use Rattle.law_reach.proofs.Joins.{reflexive, symmetric, transitive}
use Rattle.law_reach.proofs.reach_is_an_equivalence.Goals as goal

pub returns-clause-reflexive : goal.returns-clause-reflexive
returns-clause-reflexive c = λ e. reflexive e

pub returns-clause-symmetric : goal.returns-clause-symmetric
returns-clause-symmetric c = λ e. symmetric e

pub returns-clause-transitive : goal.returns-clause-transitive
returns-clause-transitive c = λ e. transitive e
