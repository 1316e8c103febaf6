use Rattle.law_secrecy.proofs.Images as images
use Rattle.law_secrecy.proofs.Unseen as laws
use Rattle.law_secrecy.proofs.Events as events
use Rattle.law_secrecy.proofs.secrets_stay.Goals as goal

pub returns : goal.returns
returns g = record {
  agrees = λ b s t x width value unseen. laws.bytes_agree b s t x width value unseen;
  event = λ b s t x width value e parts wired keeps zeros unseen only. events.event_secret b s _ t parts wired keeps.confined (laws.bytes_keep b.image s t x width value unseen keeps).confined zeros (laws.bytes_blank b.image s t x width value unseen zeros)
      (laws.bytes_agree b s t x width value unseen) e only;
  boots = λ p t x width value ms s unseen away. images.other_boot p s t x width value ms unseen away;
  inputs = λ b s z t n one other unseen agree. laws.inputs_agree b s z t n one other unseen agree;
}
