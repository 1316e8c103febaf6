use Rattle.law_image.proofs.Alike.{alike}
use Rattle.law_image.proofs.upgrade.upgrade_boots_alike.Goals as goal

pub returns : goal.returns
returns c = alike
