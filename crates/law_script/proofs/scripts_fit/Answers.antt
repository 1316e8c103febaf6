use Rattle.law_script.proofs.Fits.{few, named}
use Rattle.law_script.proofs.scripts_fit.Goals as goal

pub returns : goal.returns
returns c = record { few = few; named = named }
