use Rattle.law_assembly.proofs.Loading.{number_loaded}
use Rattle.law_assembly.proofs.numbers_are_loaded.Goals as goal

pub returns : goal.returns
returns c = number_loaded
