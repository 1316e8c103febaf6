use Rattle.def_words.specs.LeastBounds.{exponent_for}
use Rattle.law_words.proofs.Leasts.{floor_under, ceil_above}
use Rattle.law_words.proofs.Back.{gives, stays}
use Rattle.law_words.proofs.rounding.rounding_holds.Goals as goal

pub returns-clause-outwards : goal.returns-clause-outwards
returns-clause-outwards c = λ base top. (floor_under base (exponent_for base top), ceil_above top (exponent_for base top))

pub returns-clause-gives : goal.returns-clause-gives
returns-clause-gives c = gives

pub returns-clause-stays : goal.returns-clause-stays
returns-clause-stays c = stays
