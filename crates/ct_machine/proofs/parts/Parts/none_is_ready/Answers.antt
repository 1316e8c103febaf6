use Rattle.std.proofs.Common.{is_none, ap, ◌∙◌}
use Rattle.ct_machine.specs.Quiet.{none_is_ready}
use Rattle.ct_machine.proofs.Taking.{pick_is}
use Rattle.ct_machine.proofs.parts.Parts.none_is_ready.Goals as goal

pub returns : goal.returns
returns g c = c.none_is_ready.ensures ∙ ap is_none (pick_is c.self.inside c.self.invariant.0) ∙ ap none_is_ready c.self.view_is
