use Rattle.std.proofs.Common.{ap, sym, refl, subst, arith, ◌<◌, ◌≡◌, ◌∙◌}
use Rattle.def_step.specs.Events.{end_of}
use Rattle.def_machine.specs.Platform.{MachineRow}
use Rattle.ct_machine.proofs.Taking.{state_in}
use Rattle.ct_machine.proofs.Statuses.{end_none, end_finished, end_idle}
use Rattle.ct_machine.proofs.parts.Parts.ended.Goals as goal

pub returns-then-going-gt0 : goal.returns-then-going-gt0
returns-then-going-gt0 g c =
    end_none (state_in c.self.inside) c.self.inside.engine.state.threads c.self.inside.sched.statuses refl c.self.invariant.0.statuses (subst (λ n. 0 < n) c.going.ensures c.if-going-gt0.true)
    ∙ ap (λ (m : MachineRow). end_of m.state) c.self.view_is

pub returns-then-are_over : goal.returns-then-are_over
returns-then-are_over g c =
    end_finished (state_in c.self.inside) c.self.inside.engine.state.threads c.self.inside.sched.statuses refl c.self.invariant.0.statuses (sym c.if-are_over.ensures)
    ∙ ap (λ (m : MachineRow). end_of m.state) c.self.view_is

pub returns : goal.returns
returns g c =
    let none : c.going.result ≡ 0 = omega (arith, c.if-going-gt0.false) in
    end_idle (state_in c.self.inside) c.self.inside.engine.state.threads c.self.inside.sched.statuses refl c.self.invariant.0.statuses (sym c.going.ensures ∙ none) (sym c.if-are_over.ensures)
    ∙ ap (λ (m : MachineRow). end_of m.state) c.self.view_is
