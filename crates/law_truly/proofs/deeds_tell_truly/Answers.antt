use Rattle.law_truly.proofs.Deeds as laws
use Rattle.law_truly.proofs.deeds_tell_truly.Goals as goal

pub returns : goal.returns
returns c = laws.tells_truly
