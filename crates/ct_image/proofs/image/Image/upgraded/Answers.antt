use Rattle.std.proofs.Common.{sym, subst}
use Rattle.def_image.specs.Parts.{PartsRow, upgraded}
use Rattle.def_image.specs.Accepted.{IsFaultless}
use Rattle.law_image.proofs.Accepted.{stays}
use Rattle.ct_image.proofs.image.Image.upgraded.Goals as goal

pub invariant_of-result : goal.invariant_of-result
invariant_of-result c = subst (λ (p : PartsRow). IsFaultless (upgraded p)) (sym c.parts.view_is) (stays _ c.self.invariant)
