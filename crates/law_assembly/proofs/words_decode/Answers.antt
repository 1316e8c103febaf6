use Rattle.law_assembly.proofs.Saying.{words_say}
use Rattle.law_assembly.proofs.words_decode.Goals as goal

pub returns : goal.returns
returns c = words_say
