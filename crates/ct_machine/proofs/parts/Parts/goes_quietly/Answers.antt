use Rattle.std.proofs.Common.{◌∙◌, sym, subst, ap}
use Rattle.def_step.specs.Events.{holder, run_on}
use Rattle.def_machine.specs.Platform.{MachineRow}
use Rattle.ct_engine.specs.Seen.{EngineRow}
use Rattle.ct_machine.specs.Going.{MayGoOn}
use Rattle.ct_machine.specs.Quiet.{has_sweep, with_counts, IsThreadWindow}
use Rattle.ct_machine.proofs.Bursting.{burst_keeps, burst_held, burst_kept, none_goes, one_goes, opens_once, runs_seen, still_runs}
use Rattle.ct_machine.proofs.Quietly.{none_ended, quietly_run, window_in, window_out}
use Rattle.ct_machine.proofs.Taking.{state_with_row}
use Rattle.ct_machine.proofs.parts.Parts.goes_quietly.Goals as goal

pub once-requires-clause-runs : goal.once-requires-clause-runs
once-requires-clause-runs g c = runs_seen c.self.view_is c.requires.runs

pub once-requires-clause-opened : goal.once-requires-clause-opened
once-requires-clause-opened g c = opens_once c.self.inside c.self.invariant.0 c.args.t (runs_seen c.self.view_is c.requires.runs) (subst MayGoOn (sym c.self.view_is) c.requires.may)

pub once-requires-clause-window : goal.once-requires-clause-window
once-requires-clause-window g c =
    window_in c.self.inside c.self.invariant.0 c.args.t c.args.window.now (subst (λ (m : MachineRow). IsThreadWindow m c.args.t c.args.window.now) (sym c.self.view_is) c.requires.window)

pub invariant_of-self : goal.invariant_of-self
invariant_of-self g c = burst_keeps c.self.inside c.self.invariant.0 c.args.t c.once.result c.once.new.self c.once.ensures.goes c.self.invariant.1

pub returns-clause-is : goal.returns-clause-is
returns-clause-is g c told counts =
    quietly_run (record c.self.inside { counts = counts }) c.self.invariant.0 c.args.t (runs_seen c.self.view_is c.requires.runs) (one_goes c.args.t c.once.result _ c.once.new.self c.once.ensures.goes told)
    ∙ ap (λ (m : MachineRow). run_on m.board (with_counts m.state counts)) c.self.view_is

pub returns-clause-same : goal.returns-clause-same
returns-clause-same g c told =
    ap (λ (x : EngineRow). state_with_row c.self.inside x c.self.inside.sched) (none_goes c.args.t c.once.result _ c.once.new.self c.once.ensures.goes c.once.ensures.most told)
    ∙ ap (λ (m : MachineRow). m.state) c.self.view_is

pub returns-clause-aside : goal.returns-clause-aside
returns-clause-aside g c =
    let stays = (burst_kept c.self.inside c.self.invariant.0 c.args.t c.once.result c.once.new.self c.once.ensures.goes).1 in
    record {
      board = ap (λ (m : MachineRow). m.board) c.self.view_is;
      counts = ap (λ (m : MachineRow). m.state.counts) c.self.view_is;
      sweep = ap (λ (x : EngineRow). has_sweep x.state) stays.beside ∙ ap (λ (m : MachineRow). has_sweep m.state) c.self.view_is;
      pending = ap (λ (m : MachineRow). m.state.pending) c.self.view_is;
      running = ap (λ (x : EngineRow). x.state.running) stays.beside ∙ ap (λ (m : MachineRow). m.state.running) c.self.view_is;
      holder = burst_held c.self.inside c.self.invariant.0 c.args.t (runs_seen c.self.view_is c.requires.runs) c.once.result c.once.new.self c.once.ensures.goes ∙ ap (λ (m : MachineRow). holder m.state) c.self.view_is;
    }

pub returns-clause-still : goal.returns-clause-still
returns-clause-still g c =
    let i = c.self.inside in
    none_ended (record i { engine = c.once.new.self }) (burst_kept i c.self.invariant.0 c.args.t c.once.result c.once.new.self c.once.ensures.goes).0 c.args.t
    (still_runs i c.self.invariant.0 c.args.t (runs_seen c.self.view_is c.requires.runs) c.once.result c.once.new.self c.once.ensures.goes)

pub returns-clause-window : goal.returns-clause-window
returns-clause-window g c =
    let i = c.self.inside in
    window_out (record i { engine = c.once.new.self }) (burst_kept i c.self.invariant.0 c.args.t c.once.result c.once.new.self c.once.ensures.goes).0 c.args.t c.once.new.window c.once.ensures.window
