use Rattle.std.proofs.Common.{◌≡◌, ◌+◌, drop}
use Rattle.ct_source.specs.Runs.{run}
use Rattle.ct_source.proofs.tokens.inner_len.Given as goal

abbrev pub invariant-loop-i : goal.invariant-loop-i
invariant-loop-i l = run l.text ≡ l.i + run (drop l.i l.text)
