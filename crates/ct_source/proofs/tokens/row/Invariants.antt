use Rattle.std.proofs.Common.{◌≡◌, ◌≤◌, length, false}
use Rattle.def_source.specs.Source.{pieces, row_of}
use Rattle.ct_source.specs.Runs.{begins_blank, behind, shortened}
use Rattle.ct_source.specs.Views.{row_view}
use Rattle.ct_source.proofs.tokens.row.Given as goal

abbrev pub invariant-loop-rest : goal.invariant-loop-rest
invariant-loop-rest l = record {
  whole : shortened (behind (row_view l.all.items) (row_of (pieces l.rest))) ≡ shortened (row_of (pieces l.text));
  begins : begins_blank l.rest ≡ false;
  few : length l.all.items ≤ 10;
}

abbrev pub decreases-loop-rest : goal.decreases-loop-rest
decreases-loop-rest l = length l.rest
