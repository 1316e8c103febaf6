use Rattle.std.proofs.Common.{◌*◌, ◌^◌, ◌≤◌, arith}
use Rattle.def_words.specs.LeastBounds.{ceil_units, exponent_for}
use Rattle.law_words.proofs.Leasts.{good}
use Rattle.ct_bounds.proofs.rounding.round_length.Goals as goal

pub returns-clause-fits : goal.returns-clause-fits
returns-clause-fits c =
    let fits : ceil_units c.args.n (exponent_for 0 c.args.n) * 2 ^ exponent_for 0 c.args.n ≤ 2 ^ 32 = (good 0 c.args.n (omega arith) (omega arith)).fits in
    rw (c.ceil.ensures.value, c.least_exponent-exponent.ensures.value) (omega (arith, fits))
