use Rattle.std.proofs.Common.{ap, ◌∙◌}
use Rattle.law_image.proofs.Sounds.{sound}
use Rattle.def_boot.specs.Boot.{image_of}
use Rattle.ct_machine.proofs.Starts.{plan_of}
use Rattle.ct_machine.proofs.plan.Plan.of.Goals as goal

pub invariant_of-result : goal.invariant_of-result
invariant_of-result c =
    plan_of c.args.image.now c.of.result.value c.in_ok-entries.entries c.in_ok-handlers.handlers.items c.parts.inside.ram c.parts.inside.heap c.parts.inside.sweep (sound c.args.image.now c.parts-parts.ensures.faultless) c.of.ensures
    c.in_ok-entries.ensures.entries c.in_ok-handlers.ensures (ap (λ p. p.ram) (c.parts.view_is ∙ c.parts-parts.ensures.parts)) (ap (λ p. p.heap) (c.parts.view_is ∙ c.parts-parts.ensures.parts)) (ap (λ p. p.sweep) (c.parts.view_is ∙ c.parts-parts.ensures.parts))

pub returns : goal.returns
returns c = ap image_of c.of.ensures
