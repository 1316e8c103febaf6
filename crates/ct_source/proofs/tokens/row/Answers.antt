use Rattle.std.proofs.Common.{rules, ap, ◌∙◌}
use Rattle.def_source.specs.Source.{row_of}
use Rattle.ct_source.specs.Runs.{behind, shortened}
use Rattle.ct_source.specs.Views.{row_view}
use Rattle.ct_source.proofs.RowsOf.{pushed, refused, all_read}
use Rattle.ct_source.proofs.tokens.row.Goals as goal

pub loop-rest-preserved : goal.loop-rest-preserved
loop-rest-preserved c = record {
  whole = ap (λ ps. shortened (behind (row_view c.add_token.new.all.items) (row_of ps))) c.skip_blanks-rest-in-loop-rest.ensures.pieces
      ∙ pushed c.loop-rest.all.items c.add_token.new.all.items c.in-Some.t c.first_piece.result.0.now _ _ _ c.in_ok-add_token-in-Some.ensures.items c.in-Some.ensures c.first_piece.ensures.pieces c.loop-rest.invariant.whole;
  begins = c.skip_blanks-rest-in-loop-rest.ensures.begins;
  few = c.in_ok-add_token-in-Some.ensures.few;
}

pub returns-in-None : goal.returns-in-None
returns-in-None c = refused c.loop-rest.all.items c.first_piece.result.0.now _ _ _ c.in-None.ensures c.first_piece.ensures.pieces c.loop-rest.invariant.whole

pub returns : goal.returns
returns c = all_read c.loop-rest.all.items c.loop-rest.rest.now _ (search rules) c.loop-rest.invariant.few c.loop-rest.invariant.whole
