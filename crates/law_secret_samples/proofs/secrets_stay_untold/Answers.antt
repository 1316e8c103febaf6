use Rattle.law_secret_samples.proofs.Booted as booted
use Rattle.law_secret_samples.proofs.Sounds as sounds
use Rattle.law_secret_samples.proofs.Turns as turns
use Rattle.law_secret_samples.proofs.secrets_stay_untold.Goals as goal

pub returns : goal.returns
returns c =
    let w = c.walls_stand.ensures in
    record {
      accepted = λ n small. sounds.faultless n (w.limits n) (w.regions n) (w.indexes n) (w.rights n) small;
      secret = λ n small. booted.secret_is n small;
      unseen = λ n. booted.unseen n;
      seen = λ n x low high. booted.own_seen n x low high;
      untold = λ n m ms small less takes. turns.secrets_differ_untold n m ms small less (sounds.accepted n (w.limits n) (w.regions n) (w.indexes n) (w.rights n) small) takes;
    }
