use Rattle.law_link.proofs.Whole.{faultless}
use Rattle.law_accepted.proofs.Running.{all_licensed, confined, kept, licensed, partitioned}
use Rattle.law_accepted.proofs.accepted_images_run.Goals as goal

pub returns : goal.returns
returns c = record {
  partitioned = λ bytes p i. partitioned p i.0;
  confined = λ bytes p es i. confined p es i.0;
  licensed = λ bytes p es i. licensed p es i.0;
  linked_partitioned = λ d sources p l. partitioned p (faultless d sources p l);
  linked_confined = λ d sources p es l. confined p es (faultless d sources p l);
  linked_licensed = λ d sources p es l. licensed p es (faultless d sources p l);
  sound_keeps = λ p es s. kept p es s;
  sound_licensed = λ p es s. all_licensed p es s;
}
