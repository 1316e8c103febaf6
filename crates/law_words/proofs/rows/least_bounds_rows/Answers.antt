use Rattle.std.proofs.Common.{refl}
use Rattle.def_words.specs.LeastBounds.{exponent_for}
use Rattle.law_words.proofs.rows.least_bounds_rows.Goals as goal

pub returns-clause-exact_511 : goal.returns-clause-exact_511
unfolding exponent_for
returns-clause-exact_511 c = refl

pub returns-clause-rounded_512 : goal.returns-clause-rounded_512
unfolding exponent_for
returns-clause-rounded_512 c = refl

pub returns-clause-skips : goal.returns-clause-skips
unfolding exponent_for
returns-clause-skips c = refl

pub returns-clause-greatest : goal.returns-clause-greatest
unfolding exponent_for
returns-clause-greatest c = refl

pub returns-clause-empty : goal.returns-clause-empty
unfolding exponent_for
returns-clause-empty c = refl

pub returns-clause-lengths : goal.returns-clause-lengths
unfolding exponent_for
returns-clause-lengths c = (refl, refl, refl, refl)

pub returns-clause-masks : goal.returns-clause-masks
unfolding exponent_for
returns-clause-masks c = (refl, refl, refl)
