use Rattle.std.proofs.Common.{not, eqb, get_or, sym, ap, ◌∙◌, arith, w64}
use lib.Count.{count_trailing_zeros}
use lib.Lanes.{chunk}
use Rattle.std.proofs.lemmas.Simd.{length-chunk, bitmask_splat, trailing_mask_l, none_from_empty_mask, run_in_chunk_le, run_in_chunk_fails, run_in_chunk_stops}
use Rattle.ct_planes.proofs.Zeros.{is_some, is_zero, is_not_zero}
use Rattle.ct_planes.proofs.scan.zeros_in.Goals as goal

pub returns-then-found-eq0-clause-zeros : goal.returns-then-found-eq0-clause-zeros
returns-then-found-eq0-clause-zeros c n le lt =
    let v = chunk c.args.at 8 c.args.words.now in
    let long = length-chunk c.args.at 8 c.args.words.now c.requires in
    let found = bitmask_splat w64 (λ a b. not (eqb a b)) v 8 0 long (omega arith) in
    is_zero (get_or c.args.words.now n 0) (none_from_empty_mask is_some c.args.words.now c.args.at 8 0 c.requires (sym found ∙ c.if-found-eq0.true) n le lt)

pub returns-else-found-eq0-clause-most : goal.returns-else-found-eq0-clause-most
returns-else-found-eq0-clause-most c =
    let v = chunk c.args.at 8 c.args.words.now in
    let long = length-chunk c.args.at 8 c.args.words.now c.requires in
    let found = bitmask_splat w64 (λ a b. not (eqb a b)) v 8 0 long (omega arith) in
    let run = ap (count_trailing_zeros 64) found ∙ trailing_mask_l is_some 64 v (omega arith) (omega (arith, found, c.if-found-eq0.false)) in
    run_in_chunk_le is_some c.args.words.now c.args.at 8 _ 0 c.requires run

pub returns-else-found-eq0-clause-zeros : goal.returns-else-found-eq0-clause-zeros
returns-else-found-eq0-clause-zeros c n le lt =
    let v = chunk c.args.at 8 c.args.words.now in
    let long = length-chunk c.args.at 8 c.args.words.now c.requires in
    let found = bitmask_splat w64 (λ a b. not (eqb a b)) v 8 0 long (omega arith) in
    let run = ap (count_trailing_zeros 64) found ∙ trailing_mask_l is_some 64 v (omega arith) (omega (arith, found, c.if-found-eq0.false)) in
    is_zero (get_or c.args.words.now n 0) (run_in_chunk_fails is_some c.args.words.now c.args.at 8 _ 0 c.requires run n le lt)

pub returns-else-found-eq0-clause-stops : goal.returns-else-found-eq0-clause-stops
returns-else-found-eq0-clause-stops c few =
    let v = chunk c.args.at 8 c.args.words.now in
    let long = length-chunk c.args.at 8 c.args.words.now c.requires in
    let found = bitmask_splat w64 (λ a b. not (eqb a b)) v 8 0 long (omega arith) in
    let run = ap (count_trailing_zeros 64) found ∙ trailing_mask_l is_some 64 v (omega arith) (omega (arith, found, c.if-found-eq0.false)) in
    is_not_zero _ (run_in_chunk_stops is_some c.args.words.now c.args.at 8 _ 0 c.requires run few)
