use Rattle.std.proofs.Common.{arith, sym, subst, ap}
use Rattle.def_events.specs.Guarded.{Guarded}
use Rattle.def_machine.specs.Platform.{MachineRow}
use Rattle.ct_machine.specs.Quiet.{WentRounds}
use Rattle.ct_machine.proofs.Bursting.{burst_keeps, idle_seen, none_seen, rounds_went, runs_seen, stays_open}
use Rattle.ct_machine.proofs.parts.Parts.run_thread_quietly.Goals as goal

pub burst-made-requires-clause-runs : goal.burst-made-requires-clause-runs
burst-made-requires-clause-runs g c = runs_seen c.self.view_is c.requires.runs

pub burst-made-requires-clause-opened : goal.burst-made-requires-clause-opened
burst-made-requires-clause-opened g c =
    stays_open c.self.inside c.self.invariant.0 c.args.t (runs_seen c.self.view_is c.requires.runs) (none_seen c.self.view_is c.requires.pending)
    (subst Guarded (sym c.self.view_is) c.requires.guarded) (idle_seen c.self.view_is c.requires.idle) c.args.most

pub invariant_of-self : goal.invariant_of-self
invariant_of-self g c = burst_keeps c.self.inside c.self.invariant.0 c.args.t c.burst-made.result c.burst-made.new.self c.burst-made.ensures.goes c.self.invariant.1

pub count_rounds-requires-clause-steps : goal.count_rounds-requires-clause-steps
count_rounds-requires-clause-steps g c =
    omega (arith, c.burst-made.ensures.most, c.requires.steps, ap (λ (m : MachineRow). m.state.counts.steps) c.self.view_is)

pub count_rounds-requires-clause-sweeps : goal.count_rounds-requires-clause-sweeps
count_rounds-requires-clause-sweeps g c =
    omega (arith, c.burst-made.ensures.most, c.requires.sweeps, ap (λ (m : MachineRow). m.state.counts.sweeps) c.self.view_is)

pub returns-clause-went : goal.returns-clause-went
returns-clause-went g c =
    subst (λ (m : MachineRow). WentRounds m c.count_rounds.new.self c.burst-made.result) c.self.view_is
    (rounds_went c.self.inside c.self.invariant.0 c.args.t (runs_seen c.self.view_is c.requires.runs) (none_seen c.self.view_is c.requires.pending)
    (subst Guarded (sym c.self.view_is) c.requires.guarded) (idle_seen c.self.view_is c.requires.idle)
    c.burst-made.result c.burst-made.new.self c.count_rounds.new.self c.burst-made.ensures.goes c.count_rounds.ensures.state c.count_rounds.ensures.board)
