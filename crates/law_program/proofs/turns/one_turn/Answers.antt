use Rattle.law_program.proofs.Following.{follows}
use Rattle.law_program.proofs.Once.{once}
use Rattle.law_program.proofs.turns.one_turn.Goals as goal

pub returns : goal.returns
returns c = record { one = once; there = follows }
