use Rattle.law_routines.proofs.Places.{place_found, place_none}
use Rattle.law_routines.proofs.places_found.Goals as goal

pub returns : goal.returns
returns c = record { found = place_found; none = place_none }
