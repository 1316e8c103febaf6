use Rattle.law_image.proofs.Sounds.{sound}
use Rattle.law_accepted.proofs.Running.{upheld, exact, integrity, homes, stay, locals, unused, swept, quotas}
use Rattle.law_accepted.proofs.accepted_images_are_safe.Goals as goal

pub returns : goal.returns
returns g = record {
  safe = λ bytes p es i. upheld p es (sound p i.0);
  exact = λ bytes p es i. exact p es (sound p i.0);
  integrity = λ bytes p es i. integrity p es (sound p i.0);
  homes = λ bytes p es i. homes p es (sound p i.0);
  stay = λ bytes p es i. stay p es (sound p i.0);
  locals = λ bytes p es i. locals p es (sound p i.0);
  unused = λ bytes p i. unused p (sound p i.0);
  swept = λ bytes p i es fs d n base long live c number from size left. swept p es fs d n base long live c number from size left (sound p i.0);
  quotas = λ bytes p es q i. quotas p es q (sound p i.0);
}
