use Rattle.law_layout.proofs.Placing.{spelled, ends_whole}
use Rattle.law_layout.proofs.regions_exact.Goals as goal

pub returns-clause-regions : goal.returns-clause-regions
returns-clause-regions c = spelled

pub returns-clause-ends : goal.returns-clause-ends
returns-clause-ends c = ends_whole
