use Rattle.std.proofs.Common.{ap, ◌∙◌, sym, subst}
use Rattle.std.proofs.lemmas.Result.{IfOk-weaker}
use Rattle.def_image.specs.Sound.{Sound}
use Rattle.law_image.proofs.Sounds.{sound}
use Rattle.ct_boot.specs.Launching.{launched}
use Rattle.ct_boot.proofs.Launched.{launched_placed, launched_first}
use Rattle.ct_boot.proofs.launching.launch.Goals as goal

pub engine_of-requires-clause-sound : goal.engine_of-requires-clause-sound
engine_of-requires-clause-sound g c = subst (λ p. Sound p) (sym c.parts.ensures.parts) (sound c.args.image.now c.parts.ensures.faultless)

pub returns-clause-placed : goal.returns-clause-placed
returns-clause-placed g c =
    IfOk-weaker c.engine_of.result _ _ (λ e is. launched_placed c.args.image.now c.args.limits.now e (sound c.args.image.now c.parts.ensures.faultless) (is ∙ ap (λ p. launched p c.args.limits.now) c.parts.ensures.parts)) c.engine_of.ensures

pub returns-clause-first : goal.returns-clause-first
returns-clause-first g c = IfOk-weaker c.engine_of.result _ _ (λ e is. launched_first c.parts.result.now c.args.limits.now e is) c.engine_of.ensures
