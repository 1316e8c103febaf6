use Rattle.std.proofs.Common.{◌∙◌, Bool, cond, None, sym, ap}
use Rattle.def_machine.specs.Platform.{MachineRow}
use Rattle.ct_machine.specs.Quiet.{undisturbed}
use Rattle.ct_machine.proofs.parts.Parts.undisturbed.Goals as goal

pub returns-then-self : goal.returns-then-self
returns-then-self g c = sym (ap (λ (b : Bool). cond b None c.self.inside.engine.state.running) c.if-self.true) ∙ ap (λ (m : MachineRow). undisturbed m.state) c.self.view_is

pub returns : goal.returns
returns g c =
    c.running.ensures ∙ sym (ap (λ (b : Bool). cond b None c.self.inside.engine.state.running) c.if-self.false) ∙ ap (λ (m : MachineRow). undisturbed m.state) c.self.view_is
