use Rattle.std.proofs.Common.{◌-◌}
use Rattle.ct_run.specs.Rounds.{script_dues}
use Rattle.ct_run.proofs.Going.{Going}
use Rattle.ct_run.proofs.rounds.write_rounds.Given as goal

abbrev pub invariant-loop-done : goal.invariant-loop-done
invariant-loop-done g l =
    Going (record {
      with_lines = l.with_lines;
      first = l.fn.machine;
      script = script_dues l.script;
      quantum = l.quantum;
      limit = l.limit;
      before = g.S.Sink.shows l.fn.sink;
    }) l.machine l.done l.left (g.S.Sink.shows l.sink)

abbrev pub decreases-loop-done : goal.decreases-loop-done
decreases-loop-done g l = l.limit - l.done
