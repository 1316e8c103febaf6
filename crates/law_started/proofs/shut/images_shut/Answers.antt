use Rattle.law_started.proofs.Shutting.{shut}
use Rattle.law_started.proofs.shut.images_shut.Goals as goal

pub returns : goal.returns
returns c = shut
