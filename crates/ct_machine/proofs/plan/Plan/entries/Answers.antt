use Rattle.std.proofs.Common.{subst, sym}
use Rattle.ct_entry.specs.Listed.{Listed}
use Rattle.ct_switch.specs.Exports.{AreSorted}
use Rattle.law_callable.proofs.Rising.{image_sorted}
use Rattle.ct_machine.proofs.plan.Plan.entries.Goals as goal

pub returns-clause-sorted : goal.returns-clause-sorted
returns-clause-sorted c = subst (λ (es : Listed). AreSorted es.gates) (sym c.self.invariant.entries_are) (image_sorted c.self.inside.image.value)

pub returns-clause-sound : goal.returns-clause-sound
returns-clause-sound c = record { parts = c.self.inside.image.value; sound = c.self.invariant.sound; is = sym c.self.view_is }
