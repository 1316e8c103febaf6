use Rattle.std.proofs.Common.{◌≡◌, ◌+◌, drop}
use Rattle.ct_source.specs.Runs.{len_before}
use Rattle.ct_source.proofs.lines.length_before.Given as goal

abbrev pub invariant-loop-i : goal.invariant-loop-i
invariant-loop-i l = len_before l.stop l.text ≡ l.i + len_before l.stop (drop l.i l.text)
