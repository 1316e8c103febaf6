use Rattle.std.proofs.Common.{ap, refl, sym, subst, ◌∙◌}
use Rattle.def_confined.specs.Holding.{EndsFit}
use Rattle.def_step.specs.Events.{scheduled}
use Rattle.def_machine.specs.Platform.{MachineRow}
use Rattle.ct_machine.proofs.Taking.{none_is, some_is, picked_alive}
use Rattle.ct_machine.proofs.Keeping.{picked_kept, counted_so}
use Rattle.ct_machine.proofs.parts.Parts.schedule.Goals as goal

pub pick-requires-in-Some-pick-clause-alive : goal.pick-requires-in-Some-pick-clause-alive
pick-requires-in-Some-pick-clause-alive g c =
    picked_alive c.self.inside c.in-Some-pick.t c.self.invariant.0.statuses (subst (λ (m : MachineRow). EndsFit m.state) (sym c.self.view_is) c.requires) c.in-Some-pick.ensures.picked

pub returns-in-Some-pick-clause-state : goal.returns-in-Some-pick-clause-state
returns-in-Some-pick-clause-state g c =
    some_is c.self.inside c.self.invariant.0 c.pick-in-Some-pick.new.self c.pick.new.self c.in-Some-pick.t
    c.in-None.ensures c.in-Some-pick.ensures.picked c.pick-in-Some-pick.ensures c.in-Some-pick.ensures.row
    ∙ ap (λ (m : MachineRow). scheduled m.board m.state) c.self.view_is

pub returns-in-None-pick-clause-state : goal.returns-in-None-pick-clause-state
returns-in-None-pick-clause-state g c =
    none_is c.self.inside c.self.invariant.0 c.pick.new.self c.in-None.ensures c.in-None-pick.ensures.picked c.in-None-pick.ensures.row ∙ ap (λ (m : MachineRow). scheduled m.board m.state) c.self.view_is

pub invariant_of-self : goal.invariant_of-self
invariant_of-self g c = (
  picked_kept c.self.inside.plan c.self.inside.engine c.pick-in-Some-pick.new.self c.self.inside.sched c.pick.new.self c.in-Some-pick.t c.self.invariant.0 c.in-Some-pick.ensures.picked
      c.pick-in-Some-pick.ensures c.in-Some-pick.ensures.row,
  counted_so c.self.inside.counts c.self.inside.time c.self.inside.engine c.pick-in-Some-pick.new.self _ c.pick-in-Some-pick.ensures refl c.self.invariant.1,
)
