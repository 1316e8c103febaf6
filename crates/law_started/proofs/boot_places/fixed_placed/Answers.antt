use Rattle.law_started.proofs.Fixing.{placed}
use Rattle.law_started.proofs.boot_places.fixed_placed.Goals as goal

pub returns : goal.returns
returns c = λ p s sound h. placed p sound s h
