use Rattle.law_image.proofs.Accepted.{stays}
use Rattle.law_image.proofs.upgrade.upgrade_is_accepted.Goals as goal

pub returns : goal.returns
returns c = stays
