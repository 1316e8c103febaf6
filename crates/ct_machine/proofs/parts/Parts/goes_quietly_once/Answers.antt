use Rattle.std.proofs.Common.{◌∙◌, ap}
use Rattle.def_machine.specs.State.{Counts}
use Rattle.ct_machine.specs.Quiet.{with_counts}
use Rattle.ct_machine.proofs.Quietly.{window_seen}
use Rattle.ct_machine.proofs.Swept.{with_none}
use Rattle.ct_machine.proofs.parts.Parts.goes_quietly_once.Goals as goal

pub goes_quietly-requires-clause-window : goal.goes_quietly-requires-clause-window
goes_quietly-requires-clause-window g c = window_seen c.self.inside c.self.invariant.0 c.in-Some.t c.self.view_is c.window-window.result c.window-window.ensures.is

pub returns-in-Some-clause-is : goal.returns-in-Some-clause-is
returns-in-Some-clause-is g c told =
    ap (λ (k : Counts). with_none (with_counts c.goes_quietly.new.self.state k)) c.goes_quietly.ensures.aside.counts ∙ c.goes_quietly.ensures.is told c.args.self.now.state.counts
