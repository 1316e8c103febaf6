use Rattle.law_image.proofs.Sounds.{sound}
use Rattle.law_image.proofs.accepted_is_sound.Goals as goal

pub returns : goal.returns
returns c = sound
