use Rattle.std.proofs.Common.{◌∙◌, ap, sym, subst}
use Rattle.def_boot.specs.Boot.{boot_state}
use Rattle.def_boot.specs.Contents.{boot_granules}
use Rattle.def_image.specs.Sound.{Sound}
use Rattle.law_image.proofs.Sounds.{sound}
use Rattle.ct_boot.proofs.booting.boot.Goals as goal

pub fill-requires-clause-sound : goal.fill-requires-clause-sound
fill-requires-clause-sound g c = subst (λ p. Sound p) (sym c.parts.ensures.parts) (sound c.args.image.now c.parts.ensures.faultless)

pub returns : goal.returns
unfolding boot_state
returns g c = c.fill.ensures ∙ ap boot_granules c.parts.ensures.parts
