use Rattle.law_each_move.proofs.Memory.{cap_keeps, bytes_keep, load_keeps}
use Rattle.law_each_move.proofs.Threads.{jump_keeps, pick_keeps, stop_keeps, clock_keeps}
use Rattle.law_each_move.proofs.each_move_keeps.Goals as goal

pub returns : goal.returns
returns c = record {
  capability = cap_keeps;
  bytes = bytes_keep;
  load = load_keeps;
  jump = jump_keeps;
  pick = pick_keeps;
  stop = stop_keeps;
  clock = clock_keeps;
}
