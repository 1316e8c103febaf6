use Rattle.law_events.proofs.Serving.{switch_stands, rests_stands}
use Rattle.law_events.proofs.Waiting.{wait_stands, wake_stands}
use Rattle.law_events.proofs.Charging.{allocate_stands, remaining_stands}
use Rattle.law_events.proofs.Freeing.{free_stands}
use Rattle.law_events.proofs.Sealing.{token_key_stands, token_new_stands, token_open_stands, token_free_stands}
use Rattle.law_moves.proofs.Pops.{returned_keeps}
use Rattle.law_events.proofs.natives.routines_stand.Goals as goal

pub returns : goal.returns
returns c = record { switch = switch_stands; back = λ i s t parts k runs. (returned_keeps i s t parts k runs, tt); rests = rests_stands; waits = wait_stands; wakes = wake_stands; allocate = allocate_stands; free = free_stands; remaining = remaining_stands; seals = λ i s t parts facts k runs. (token_key_stands i s t parts facts k runs, token_new_stands i s t parts facts k runs); opens = token_open_stands; token_free = token_free_stands }
