use Rattle.law_chunks.proofs.Standing.{objects_inside, objects_apart, objects_few}
use Rattle.law_chunks.proofs.objects_stand.Goals as goal

pub returns : goal.returns
returns c = record { inside = objects_inside; apart = objects_apart; few = objects_few }
