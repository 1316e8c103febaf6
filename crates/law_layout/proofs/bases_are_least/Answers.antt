use Rattle.law_layout.proofs.Multiples.{base_least}
use Rattle.law_layout.proofs.bases_are_least.Goals as goal

pub returns : goal.returns
returns c = base_least
