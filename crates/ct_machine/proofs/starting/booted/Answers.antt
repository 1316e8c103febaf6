use Rattle.std.proofs.Common.{ℕ, ◌≡◌, ◌∙◌, List, sym, subst}
use Rattle.std.specs.Prelude.{IfOk}
use Rattle.ct_heap.specs.Effects.{AreFew}
use Rattle.ct_boot.specs.Launching.{launched}
use Rattle.ct_machine.proofs.Starts.{few_limits, limits_are}
use Rattle.ct_machine.proofs.starting.booted.Goals as goal

pub launch-engine-requires-clause-few : goal.launch-engine-requires-clause-few
launch-engine-requires-clause-few g c =
    let p = c.args.image.now in
    let are = limits_are p c.args.plan.now c.entries.result.now c.as_slice.result.now c.requires.plan c.entries.ensures.is (c.as_slice.ensures.value ∙ c.in-Ok.ensures) in
    subst (λ (xs : List ℕ). AreFew xs) (sym are) (few_limits p c.requires.sound)

pub returns-in-Ok-clause-launched : goal.returns-in-Ok-clause-launched
returns-in-Ok-clause-launched g c =
    let p = c.args.image.now in
    let are = limits_are p c.args.plan.now c.entries.result.now c.as_slice.result.now c.requires.plan c.entries.ensures.is (c.as_slice.ensures.value ∙ c.in-Ok.ensures) in
    subst (λ (xs : List ℕ). IfOk c.launch-engine.result (λ t. t ≡ launched p xs)) are c.launch-engine.ensures.launched
