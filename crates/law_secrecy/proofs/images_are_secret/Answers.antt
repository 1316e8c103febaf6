use Rattle.law_secrecy.proofs.Images as laws
use Rattle.law_secrecy.proofs.images_are_secret.Goals as goal

pub returns : goal.returns
returns g = record {
  event = λ p es fs t e s agree only. laws.image_event p s es fs t agree e only;
  seen = λ p es fs t ms s agree alike. laws.image_alike p s es fs t agree ms alike;
  away = λ p es fs t ms s agree away. laws.image_away p s es fs t agree ms away;
}
