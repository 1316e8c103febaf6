use Rattle.std.proofs.Common.{◌+◌}
use Rattle.law_words.proofs.Exacts.{exponent_zero, exact_base, exact_top, exact_flag}
use Rattle.law_words.proofs.rounding.exact_where_short.Goals as goal

pub returns-clause-base_same : goal.returns-clause-base_same
returns-clause-base_same c = λ base length few. exact_base base (base + length) (exponent_zero base length few)

pub returns-clause-top_same : goal.returns-clause-top_same
returns-clause-top_same c = λ base length few. exact_top base (base + length) (exponent_zero base length few)

pub returns-clause-exact : goal.returns-clause-exact
returns-clause-exact c = λ base length few. exact_flag base (base + length) (exact_base base (base + length) (exponent_zero base length few)) (exact_top base (base + length) (exponent_zero base length few))
