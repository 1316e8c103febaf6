use Rattle.ct_areas.proofs.Same.{touched_same, stored_same, stored_cap_same, cleared_same}
use Rattle.ct_areas.proofs.areas.areas_apart.Goals as goal

pub returns : goal.returns
returns c = record { touches = touched_same; stored = stored_same; capability = stored_cap_same; cleared = cleared_same }
