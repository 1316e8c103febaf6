use Rattle.ct_machine.proofs.Swept.{Sweeping}
use Rattle.ct_machine.proofs.parts.Parts.swept_rounds.Given as goal

abbrev pub invariant-loop-made : goal.invariant-loop-made
invariant-loop-made g l = Sweeping l.fn.self l.self l.t l.most l.made l.window
