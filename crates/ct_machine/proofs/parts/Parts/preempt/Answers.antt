use Rattle.std.proofs.Common.{false, ap, sym, ◌∙◌}
use Rattle.std.proofs.lemmas.Bool.{not-true, not-false}
use Rattle.def_step.specs.Events.{preempted}
use Rattle.def_machine.specs.Platform.{MachineRow}
use Rattle.ct_engine.specs.Seen.{EngineRow}
use Rattle.ct_machine.specs.Parts.{state_by}
use Rattle.ct_machine.proofs.Taking.{runs_as, stops_preempted, stays_preempted}
use Rattle.ct_machine.proofs.Keeping.{stopped_so}
use Rattle.ct_machine.proofs.parts.Parts.preempt.Goals as goal

pub returns-then-not-posture-clause-state : goal.returns-then-not-posture-clause-state
returns-then-not-posture-clause-state g c =
    let i = c.self.inside in
    ap (λ (e : EngineRow). state_by e i.sched false i.bus.states i.time i.counts) c.stop.ensures
    ∙ stops_preempted (runs_as i c.in-Some.ensures c.posture.ensures) c.if-not-self.false (not-true _ c.if-not-posture.true)
    ∙ ap (λ (m : MachineRow). preempted m.state) c.self.view_is

pub returns-else-not-posture-clause-state : goal.returns-else-not-posture-clause-state
returns-else-not-posture-clause-state g c =
    sym (ap (λ (m : MachineRow). m.state) c.self.view_is)
    ∙ stays_preempted (runs_as c.self.inside c.in-Some.ensures c.posture.ensures) c.if-not-self.false (not-false _ c.if-not-posture.false)
    ∙ ap (λ (m : MachineRow). preempted m.state) c.self.view_is

pub invariant_of-self : goal.invariant_of-self
invariant_of-self g c = stopped_so c.self.inside.plan c.self.inside.engine c.stop.new.self c.self.inside.sched c.self.inside.counts c.self.inside.time c.self.invariant c.stop.ensures
