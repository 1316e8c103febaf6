use Rattle.std.proofs.Common.{ap, ◌∙◌}
use Rattle.def_step.specs.Events.{interrupted}
use Rattle.def_machine.specs.Platform.{MachineRow}
use Rattle.ct_engine.specs.Seen.{EngineRow}
use Rattle.ct_machine.proofs.Taking.{runs_as, state_with_row, waits_interrupted, stops_interrupted}
use Rattle.ct_machine.proofs.parts.Parts.interrupt.Goals as goal

pub returns-then-posture-clause-state : goal.returns-then-posture-clause-state
returns-then-posture-clause-state g c =
    waits_interrupted (runs_as c.self.inside c.in-Some.ensures c.posture.ensures) c.if-posture.true ∙ ap (λ (m : MachineRow). interrupted m.state m.state.running) c.self.view_is

pub returns-else-posture-clause-state : goal.returns-else-posture-clause-state
returns-else-posture-clause-state g c =
    let i = c.self.inside in
    ap (λ (e : EngineRow). state_with_row i e i.sched) c.stop.ensures
    ∙ stops_interrupted (runs_as i c.in-Some.ensures c.posture.ensures) c.if-posture.false
    ∙ ap (λ (m : MachineRow). interrupted m.state m.state.running) c.self.view_is
