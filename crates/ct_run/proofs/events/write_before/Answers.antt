use Rattle.std.proofs.Common.{[], ap}
use Rattle.std.proofs.lemmas.Result.{MatchResult-from_err}
use Rattle.def_script.specs.declared.Given.{Given}
use Rattle.def_step.specs.declared.Event.TheVariants.{Tick}
use Rattle.ct_run.specs.Rounds.{ticks_if}
use Rattle.ct_run.proofs.Coming.{all_came, comes, fails, last_comes, may_come, next_byte, no_byte, starts}
use Rattle.ct_run.proofs.events.write_before.Goals as goal

abbrev none : Given
none = record { device = 0; byte = 0 }

pub loop-given-init : goal.loop-given-init
loop-given-init g c = starts _ _ _ _ _ c.requires

pub write_event-requires : goal.write_event-requires
write_event-requires g c = may_come _ _ _ _ _ _ _ (next_byte _ _ _ _ _ _ _ _ none c.loop-given-test.true c.loop-given.invariant)

pub loop-given-preserved : goal.loop-given-preserved
loop-given-preserved g c = comes _ _ _ _ _ _ _ _ (next_byte _ _ _ _ _ _ _ _ none c.loop-given-test.true c.loop-given.invariant) c.in_ok-write_event.ensures

pub returns-in_err-write_event : goal.returns-in_err-write_event
returns-in_err-write_event g c =
    MatchResult-from_err c.from_residual.result _ _ c.from_residual.ensures.0
    (λ _. fails _ _ _ _ _ _ _ (next_byte _ _ _ _ _ _ _ _ none c.loop-given-test.true c.loop-given.invariant) c.in_err-write_event.ensures)

pub write_event-requires-then-due : goal.write_event-requires-then-due
write_event-requires-then-due g c = may_come _ _ _ _ _ Tick [] (no_byte _ _ _ _ _ _ _ _ c.loop-given-test.false (ap ticks_if c.if-due.true) c.loop-given.invariant)

pub returns-then-due : goal.returns-then-due
returns-then-due g c =
    last_comes _ _ _ _ _ _ Tick _ c.write_event-then-due.result (no_byte _ _ _ _ _ _ _ _ c.loop-given-test.false (ap ticks_if c.if-due.true) c.loop-given.invariant) c.write_event-then-due.ensures

pub returns : goal.returns
returns g c = all_came _ _ _ _ _ (no_byte _ _ _ _ _ _ _ _ c.loop-given-test.false (ap ticks_if c.if-due.false) c.loop-given.invariant)
