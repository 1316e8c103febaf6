use Rattle.law_moves.proofs.Ends.{swept_keeps}
use Rattle.law_moves.proofs.Objects.{allocate_keeps, free_keeps}
use Rattle.law_moves.proofs.Pops.{returned_keeps, ended_keeps, unwound_keeps}
use Rattle.law_moves.proofs.Threads.{push_keeps, put_keeps, stop_keeps, status_keeps}
use Rattle.law_moves.proofs.moves_keep.Goals as goal

pub returns : goal.returns
returns c = record {
  allocate = allocate_keeps;
  free = free_keeps;
  call = push_keeps;
  register = put_keeps;
  stop = stop_keeps;
  status = status_keeps;
  returned = returned_keeps;
  value = ended_keeps;
  unwound = unwound_keeps;
  sweep = swept_keeps;
}
