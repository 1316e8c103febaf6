use Rattle.std.proofs.Common.{arith}
use Rattle.ct_cap.proofs.standing.sealed_word.Goals as goal

pub returns : goal.returns
returns c = omega (arith, c.requires, c.ranges)
