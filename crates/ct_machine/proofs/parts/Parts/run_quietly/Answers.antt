use Rattle.std.proofs.Common.{sym, ◌∙◌}
use Rattle.ct_machine.proofs.Quietly.{undisturbed_parts}
use Rattle.ct_machine.proofs.Rounding.{none_went}
use Rattle.ct_machine.proofs.parts.Parts.run_quietly.Goals as goal

pub returns-then-has_sweep-clause-went : goal.returns-then-has_sweep-clause-went
returns-then-has_sweep-clause-went g c = none_went c.args.self.now c.requires.guarded

pub run_thread_quietly-requires-clause-idle : goal.run_thread_quietly-requires-clause-idle
run_thread_quietly-requires-clause-idle g c = sym c.has_sweep.ensures ∙ c.if-has_sweep.false

pub run_thread_quietly-requires-clause-pending : goal.run_thread_quietly-requires-clause-pending
run_thread_quietly-requires-clause-pending g c = (undisturbed_parts c.args.self.now.state c.in-Some.t c.in-Some.ensures).0

pub run_thread_quietly-requires-clause-runs : goal.run_thread_quietly-requires-clause-runs
run_thread_quietly-requires-clause-runs g c = (undisturbed_parts c.args.self.now.state c.in-Some.t c.in-Some.ensures).1

pub run_dormant-requires-clause-sweep : goal.run_dormant-requires-clause-sweep
run_dormant-requires-clause-sweep g c = sym c.has_sweep.ensures ∙ c.if-has_sweep.false
