use Rattle.law_image.proofs.OneCut.{one_cut}
use Rattle.law_image.proofs.Backs.{one_reading}
use Rattle.law_image.proofs.one_reading.Goals as goal

pub returns-clause-cut : goal.returns-clause-cut
returns-clause-cut c = one_cut

pub returns-clause-parts : goal.returns-clause-parts
returns-clause-parts c = one_reading
