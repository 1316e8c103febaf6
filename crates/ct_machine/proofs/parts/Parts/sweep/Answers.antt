use Rattle.std.proofs.Common.{ap, arith, sym, subst}
use Rattle.def_events.specs.Guarded.{Guarded}
use Rattle.def_machine.specs.Platform.{MachineRow}
use Rattle.def_machine.specs.State.{Counts}
use Rattle.def_step.specs.declared.Event.TheVariants.{Sweep}
use Rattle.ct_machine.specs.Parts.{IsCounted}
use Rattle.ct_machine.proofs.Guards.{told_guarded}
use Rattle.ct_machine.proofs.Sweeping.{none_left, sweep_happens, swept_kept}
use Rattle.ct_machine.proofs.parts.Parts.sweep.Goals as goal

pub sweep-requires-2 : goal.sweep-requires-2
sweep-requires-2 g c =
    let m = subst Guarded (sym c.self.view_is) c.requires.guarded in
    record { left = none_left c.self.inside c.self.invariant.0 c.sweep.result c.sweep.ensures m.partitioned m.facts.away m.keeps }

pub invariant_of-self : goal.invariant_of-self
invariant_of-self g c =
    let i = c.self.inside in
    let h = c.self.invariant.1 in
    let room = ap (λ (m : MachineRow). m.state.counts.sweeps) c.self.view_is in
    swept_kept (record i { counts = c.count_sweep.new.self }) c.self.invariant.0 c.sweep-2.new.self c.sweep.result c.sweep.ensures c.sweep-2.ensures
    (subst (λ (k : Counts). IsCounted k i.time i.engine.state.next) (sym c.count_sweep.ensures)
    (record { steps = h.steps; ticks = h.ticks; sweeps = omega (arith, room, c.requires.sweeps); inputs = h.inputs; deeds = h.deeds; clock = h.clock; made = h.made }))

pub returns-clause-is : goal.returns-clause-is
returns-clause-is g c =
    sweep_happens c.self.inside c.sweep-2.new.self c.count_sweep.new.self c.sweep.result c.self.invariant.0 c.self.view_is c.requires.guarded c.sweep.ensures c.sweep-2.ensures c.count_sweep.ensures

pub returns-clause-guarded : goal.returns-clause-guarded
returns-clause-guarded g c =
    told_guarded Sweep c.requires.guarded
    (sweep_happens c.self.inside c.sweep-2.new.self c.count_sweep.new.self c.sweep.result c.self.invariant.0 c.self.view_is c.requires.guarded c.sweep.ensures c.sweep-2.ensures c.count_sweep.ensures)
    (ap (λ (m : MachineRow). m.board) c.self.view_is)
