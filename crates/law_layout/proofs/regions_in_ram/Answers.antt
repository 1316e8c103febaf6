use Rattle.law_layout.proofs.Placing.{in_ram}
use Rattle.law_layout.proofs.regions_in_ram.Goals as goal

pub returns : goal.returns
returns c = in_ram
