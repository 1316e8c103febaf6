use Rattle.def_step.specs.Quotas.{Made, Refused}
use Rattle.law_history.proofs.Tokens.{free_of_other, free_of_own, free_unkeyed, free_untokened, key_answers, new_answers, new_unkeyed}
use Rattle.law_history.proofs.causes.tokens_answer.Goals as goal

pub returns : goal.returns
returns c = record {
  key_refused = λ i s t n may has is. key_answers i s t (Refused n) may has is;
  key_made = λ i s t r may has is. key_answers i s t (Made r) may has is;
  new_no_key = new_unkeyed;
  new_refused = λ i s t n key may has finds is made. new_answers i s t key (Refused n) may has finds is made;
  new_made = λ i s t key r may has finds is made. new_answers i s t key (Made r) may has finds is made;
  free_no_key = free_unkeyed;
  free_no_token = free_untokened;
  free_other = free_of_other;
  freed = free_of_own;
}
