use Rattle.law_image.proofs.Places.{places_are}
use Rattle.law_image.proofs.places_are_offsets.Goals as goal

pub returns : goal.returns
returns c = places_are
