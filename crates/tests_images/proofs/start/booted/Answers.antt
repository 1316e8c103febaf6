use Rattle.std.proofs.Common.{◌%◌, ◌∙◌, ap}
use Rattle.law_image.proofs.Sounds.{sound}
use Rattle.tests_images.proofs.start.booted.Goals as goal

pub new-requires : goal.new-requires
new-requires c = ap (λ p. p.size % 16) (c.parts.view_is ∙ c.parts-parts.ensures.parts) ∙ (sound c.args.image.now c.parts-parts.ensures.faultless).ram.size
