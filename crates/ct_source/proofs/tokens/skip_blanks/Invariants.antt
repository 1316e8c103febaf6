use Rattle.std.proofs.Common.{◌≡◌, drop}
use Rattle.def_source.specs.Source.{pieces}
use Rattle.ct_source.proofs.tokens.skip_blanks.Given as goal

abbrev pub invariant-loop-i : goal.invariant-loop-i
invariant-loop-i l = pieces (drop l.i l.text) ≡ pieces l.text
