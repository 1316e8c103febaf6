use Rattle.law_integrity.proofs.Images as laws
use Rattle.law_integrity.proofs.images_kept.Goals as goal

pub returns : goal.returns
returns c = record { each = laws.image_integrity; homes = laws.image_homes; stays = laws.image_stays }
