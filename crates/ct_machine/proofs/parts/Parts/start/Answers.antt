use Rattle.std.proofs.Common.{◌∙◌, ap, sym, subst}
use Rattle.def_image.specs.Sound.{Sound}
use Rattle.law_image.proofs.Sounds.{sound}
use Rattle.def_boot.specs.Gates.{entries_of}
use Rattle.ct_boot.specs.Launching.{launched}
use Rattle.ct_machine.specs.Starting.{limits_of}
use Rattle.ct_machine.proofs.Guards.{booted_by}
use Rattle.ct_machine.proofs.parts.Parts.start.Goals as goal

pub returns-clause-guarded : goal.returns-clause-guarded
returns-clause-guarded g c = booted_by c.parts-parts.result.now c.put_together.result (subst (λ p. Sound p) (sym c.parts-parts.ensures.parts) (sound c.args.image.now c.parts-parts.ensures.faultless)) c.put_together.ensures

pub put_together-requires-clause-sound : goal.put_together-requires-clause-sound
put_together-requires-clause-sound g c = subst (λ p. Sound p) (sym c.parts-parts.ensures.parts) (sound c.args.image.now c.parts-parts.ensures.faultless)

pub rest-requires : goal.rest-requires
rest-requires g c = subst (λ p. Sound p) (sym c.parts-parts.ensures.parts) (sound c.args.image.now c.parts-parts.ensures.faultless)

pub booted-requires-clause-sound : goal.booted-requires-clause-sound
booted-requires-clause-sound g c = sound c.args.image.now c.parts-parts.ensures.faultless

pub put_together-requires-clause-engine : goal.put_together-requires-clause-engine
put_together-requires-clause-engine g c = c.in-Ok-booted.ensures.launched ∙ ap (λ q. launched q (limits_of (entries_of q))) (sym c.parts-parts.ensures.parts)
