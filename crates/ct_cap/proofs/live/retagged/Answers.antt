use Rattle.std.proofs.Common.{◌∙◌, ap, sym}
use Rattle.ct_cap.proofs.Parts.{word_same}
use Rattle.ct_cap.proofs.live.retagged.Goals as goal

pub invariant_of-result : goal.invariant_of-result
invariant_of-result c =
    let kept = word_same c.l.inside.cap c.cap_of.result (ap (λ r. r.word) c.cap_of.ensures) in
    (c.l.invariant.0 ∙ sym kept.0, c.l.invariant.1 ∙ ap (λ p. record { 0 = p }) (sym kept.1), c.l.invariant.2 ∙ sym kept.2)
