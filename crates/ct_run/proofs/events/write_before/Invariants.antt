use Rattle.std.proofs.Common.{drop}
use Rattle.ct_run.specs.Rounds.{before_of}
use Rattle.ct_run.proofs.Coming.{Coming}
use Rattle.ct_run.proofs.events.write_before.Given as goal

abbrev pub invariant-loop-given : goal.invariant-loop-given
invariant-loop-given g l =
    Coming l.with_lines l.fn.machine l.machine l.number (before_of l.givens l.due) (before_of (drop l.given-index l.givens) l.due) (g.S.Sink.shows l.fn.sink) (g.S.Sink.shows l.sink)
