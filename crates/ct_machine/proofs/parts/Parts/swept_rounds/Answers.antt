use Rattle.std.proofs.Common.{◌≡◌, ap, arith, ◌∙◌}
use Rattle.std.proofs.lemmas.Bool.{lt-ltb}
use Rattle.def_profile.specs.declared.limits.TheConstants.{MOST_STEPS}
use Rattle.def_machine.specs.State.{State, Counts}
use Rattle.def_step.specs.Events.{end_of}
use Rattle.ct_machine.specs.Going.{silence}
use Rattle.ct_machine.proofs.Appending.{round_ran, with_silence}
use Rattle.ct_machine.proofs.Bursting.{runs_seen}
use Rattle.ct_machine.proofs.Quietly.{window_seen}
use Rattle.ct_machine.proofs.Guards.{guarded_may, same_by}
use Rattle.ct_machine.proofs.Onward.{more_ran, steps_left, sweeps_left}
use Rattle.ct_machine.proofs.Swept.{goes_on, starts, step_is, swept_onward}
use Rattle.ct_machine.proofs.parts.Parts.swept_rounds.Goals as goal

pub window-window-requires : goal.window-window-requires
window-window-requires g c = runs_seen c.self.view_is c.requires.runs

pub loop-made-init : goal.loop-made-init
loop-made-init g c =
    starts c.args.self.now c.args.t c.args.most c.window-window.result c.requires.guarded c.requires.pending c.requires.runs
    (window_seen c.self.inside c.self.invariant.0 c.args.t c.self.view_is c.window-window.result c.window-window.ensures.is)

pub sweep-requires-clause-sweeps : goal.sweep-requires-clause-sweeps
sweep-requires-clause-sweeps g c =
    let left = sweeps_left c.args.self.now c.loop-made.self c.args.most c.loop-made.made MOST_STEPS c.loop-made.invariant.on c.requires.sweeps in
    omega (arith, left, c.loop-made-test.true)

pub goes_quietly-requires-clause-may : goal.goes_quietly-requires-clause-may
goes_quietly-requires-clause-may g c = guarded_may c.sweep.ensures.guarded

pub goes_quietly-requires-clause-runs : goal.goes_quietly-requires-clause-runs
goes_quietly-requires-clause-runs g c = (swept_onward c.loop-made.self c.sweep.new.self c.args.t c.loop-made.invariant.runs c.loop-made.invariant.pending c.sweep.ensures.board c.sweep.ensures.is).running

pub goes_quietly-requires-clause-window : goal.goes_quietly-requires-clause-window
goes_quietly-requires-clause-window g c = (swept_onward c.loop-made.self c.sweep.new.self c.args.t c.loop-made.invariant.runs c.loop-made.invariant.pending c.sweep.ensures.board c.sweep.ensures.is).window c.loop-made.window c.loop-made.invariant.window

pub step-requires-clause-guarded : goal.step-requires-clause-guarded
step-requires-clause-guarded g c =
    same_by c.sweep.new.self c.goes_quietly.new.self (c.goes_quietly.ensures.same c.if-not-goes_quietly.true) c.goes_quietly.ensures.aside.board c.sweep.ensures.guarded

pub step-requires-clause-lawful : goal.step-requires-clause-lawful
step-requires-clause-lawful g c =
    let same = ap (λ (k : Counts). k.steps) c.goes_quietly.ensures.aside.counts in
    let swept = (swept_onward c.loop-made.self c.sweep.new.self c.args.t c.loop-made.invariant.runs c.loop-made.invariant.pending c.sweep.ensures.board c.sweep.ensures.is).steps in
    let left = steps_left c.args.self.now c.loop-made.self c.args.most c.loop-made.made MOST_STEPS c.loop-made.invariant.on c.requires.steps in
    lt-ltb _ _ (omega (arith, same, swept, left, c.loop-made-test.true))

pub returns-then-not-goes_quietly-clause-ran : goal.returns-then-not-goes_quietly-clause-ran
returns-then-not-goes_quietly-clause-ran g c =
    more_ran c.args.self.now c.loop-made.self c.step.new.self c.args.most c.loop-made.made 1 c.step.result c.loop-made.invariant.on (omega arith)
    (round_ran (ap with_silence (c.goes_quietly.ensures.same c.if-not-goes_quietly.true) ∙ c.sweep.ensures.is) (c.goes_quietly.ensures.aside.board ∙ c.sweep.ensures.board)
    (same_by c.sweep.new.self c.goes_quietly.new.self (c.goes_quietly.ensures.same c.if-not-goes_quietly.true) c.goes_quietly.ensures.aside.board c.sweep.ensures.guarded) c.step.ensures.is c.step.ensures.board)

pub count_step-requires : goal.count_step-requires
count_step-requires g c =
    let same = ap (λ (k : Counts). k.steps) c.goes_quietly.ensures.aside.counts in
    let swept = (swept_onward c.loop-made.self c.sweep.new.self c.args.t c.loop-made.invariant.runs c.loop-made.invariant.pending c.sweep.ensures.board c.sweep.ensures.is).steps in
    let left = steps_left c.args.self.now c.loop-made.self c.args.most c.loop-made.made MOST_STEPS c.loop-made.invariant.on c.requires.steps in
    omega (arith, same, swept, left, c.loop-made-test.true)

pub returns-then-not-has_sweep-clause-ran : goal.returns-then-not-has_sweep-clause-ran
returns-then-not-has_sweep-clause-ran g c =
    let swept = swept_onward c.loop-made.self c.sweep.new.self c.args.t c.loop-made.invariant.runs c.loop-made.invariant.pending c.sweep.ensures.board c.sweep.ensures.is in
    let quiet = step_is c.sweep.new.self c.goes_quietly.new.self c.count_step.new.self c.args.t swept.pending swept.running (c.goes_quietly.ensures.is c.if-not-goes_quietly.false) c.goes_quietly.ensures.aside c.count_step.ensures.state in
    rw (c.silent.ensures.count, c.silent.ensures.told)
    (more_ran c.args.self.now c.loop-made.self c.count_step.new.self c.args.most c.loop-made.made 1 silence c.loop-made.invariant.on (omega arith)
    (round_ran c.sweep.ensures.is c.sweep.ensures.board c.sweep.ensures.guarded quiet (c.count_step.ensures.board ∙ c.goes_quietly.ensures.aside.board)))

pub loop-made-preserved : goal.loop-made-preserved
loop-made-preserved g c =
    let swept = swept_onward c.loop-made.self c.sweep.new.self c.args.t c.loop-made.invariant.runs c.loop-made.invariant.pending c.sweep.ensures.board c.sweep.ensures.is in
    goes_on c.loop-made.invariant c.loop-made-test.true c.sweep.ensures.is c.sweep.ensures.board c.sweep.ensures.guarded
    (step_is c.sweep.new.self c.goes_quietly.new.self c.count_step.new.self c.args.t swept.pending swept.running (c.goes_quietly.ensures.is c.if-not-goes_quietly.false) c.goes_quietly.ensures.aside c.count_step.ensures.state) (c.count_step.ensures.board ∙ c.goes_quietly.ensures.aside.board)
    (ap (λ (s : State). end_of s) c.count_step.ensures.state ∙ c.goes_quietly.ensures.still)
    (ap (λ (s : State). s.pending) c.count_step.ensures.state ∙ c.goes_quietly.ensures.aside.pending ∙ swept.pending)
    (ap (λ (s : State). s.running) c.count_step.ensures.state ∙ c.goes_quietly.ensures.aside.running ∙ swept.running)
    (rw (c.count_step.ensures.board, c.count_step.ensures.state) c.goes_quietly.ensures.window)

pub returns-clause-ran : goal.returns-clause-ran
returns-clause-ran g c =
    let all : c.args.most ≡ c.loop-made.made = omega (arith, c.loop-made.invariant.on.within, c.loop-made-test.false) in
    rw (c.silent-2.ensures.count, c.silent-2.ensures.told, all) (c.loop-made.invariant.on.ran, c.loop-made.invariant.on.guarded)
