use Rattle.std.proofs.Common.{◌<◌, ◌^◌, arith}
use lib.Count.{count_leading_zeros}
use Rattle.ct_bounds.proofs.Candidates.{bits_of, first_above, first_below, first_small}
use Rattle.ct_bounds.proofs.rounding.first_candidate.Goals as goal

pub returns-clause-above : goal.returns-clause-above
returns-clause-above c =
    let small : c.args.length < 2 ^ 64 = omega (arith, c.requires) in
    first_above c.args.length (count_leading_zeros 64 c.args.length) c.saturating_sub.result (bits_of c.args.length small) c.saturating_sub.ensures

pub returns-clause-below : goal.returns-clause-below
returns-clause-below c =
    let small : c.args.length < 2 ^ 64 = omega (arith, c.requires) in
    first_below c.args.length (count_leading_zeros 64 c.args.length) c.saturating_sub.result (bits_of c.args.length small) c.saturating_sub.ensures

pub returns-clause-small : goal.returns-clause-small
returns-clause-small c =
    let small : c.args.length < 2 ^ 64 = omega (arith, c.requires) in
    first_small c.args.length (count_leading_zeros 64 c.args.length) c.saturating_sub.result (bits_of c.args.length small) c.saturating_sub.ensures c.requires
