use Rattle.law_truly.proofs.Turns.{takes_turn, ticks_stop, turns_stay}
use Rattle.law_truly.proofs.turns_are_taken.Goals as goal

pub returns : goal.returns
returns g = record { steps = takes_turn; ticks = ticks_stop; stays = turns_stay }
