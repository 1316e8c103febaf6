use Rattle.def_step.specs.Quotas.{Made, Refused}
use Rattle.law_history.proofs.Allocations.{full_refused, limit_refused, place_made, quarantined_refused, size_refused}
use Rattle.law_history.proofs.Services.{allocate_answers, free_given, free_refused, with_quota, without_quota}
use Rattle.law_history.proofs.causes.heap_routines_answer.Goals as goal

pub returns : goal.returns
returns c = record {
  size = size_refused;
  limit = limit_refused;
  waits = quarantined_refused;
  full = full_refused;
  made = place_made;
  no_quota = λ i s t may none. (without_quota s t _ may none, without_quota s t _ may none, without_quota s t _ may none, without_quota s t _ may none, without_quota s t _ may none, without_quota s t _ may none);
  answers = λ i s t n may has is. allocate_answers i s t (Refused n) may has is;
  hands_out = λ i s t r may has is. allocate_answers i s t (Made r) may has is;
  no_object = free_refused;
  freed = free_given;
  remaining = λ i s t may has. with_quota s t _ may has;
}
