use Rattle.def_words.specs.LeastBounds.{exponent_for}
use Rattle.law_words.proofs.Leasts.{exponent_is, unique}
use Rattle.law_words.proofs.Exacts.{no_larger}
use Rattle.law_words.proofs.rounding.least_exponent.Goals as goal

pub returns-clause-is : goal.returns-clause-is
returns-clause-is c = exponent_is

pub returns-clause-only : goal.returns-clause-only
returns-clause-only c = λ base top e h. unique base top e (exponent_for base top) h (exponent_is base top)

pub returns-clause-no_larger : goal.returns-clause-no_larger
returns-clause-no_larger c = no_larger
