use Rattle.std.proofs.Common.{arith, ◌<◌}
use Rattle.ct_source.proofs.PiecesOf.{run_piece, run_within}
use Rattle.ct_source.proofs.tokens.first_piece.Goals as goal

pub split_at-requires-2 : goal.split_at-requires-2
split_at-requires-2 c = omega (arith, run_within c.args.text.now, c.inner_len-len.ensures.value)

pub returns-clause-pieces : goal.returns-clause-pieces
returns-clause-pieces c =
    let some : 0 < c.inner_len-len.result = omega arith in
    rw (c.split_at-2.ensures.front, c.split_at-2.ensures.back) (run_piece c.args.text.now c.inner_len-len.result c.inner_len-len.ensures.value some)
