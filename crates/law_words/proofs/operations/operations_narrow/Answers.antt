use Rattle.law_words.proofs.Narrowing.{address_narrows, raised_narrows, bounds_narrows, exact_narrows, masked_narrows}
use Rattle.law_words.proofs.Sealed.{sealed_narrows, unsealed_narrows}
use Rattle.law_words.proofs.Passing.{loaded_narrows}
use Rattle.law_words.proofs.operations.operations_narrow.Goals as goal

pub returns-clause-address : goal.returns-clause-address
returns-clause-address c = address_narrows

pub returns-clause-raise : goal.returns-clause-raise
returns-clause-raise c = raised_narrows

pub returns-clause-bounds : goal.returns-clause-bounds
returns-clause-bounds c = bounds_narrows

pub returns-clause-exact : goal.returns-clause-exact
returns-clause-exact c = exact_narrows

pub returns-clause-mask : goal.returns-clause-mask
returns-clause-mask c = masked_narrows

pub returns-clause-seals : goal.returns-clause-seals
returns-clause-seals c = λ d key t. (sealed_narrows d key t).0

pub returns-clause-unseals : goal.returns-clause-unseals
returns-clause-unseals c = λ d key t. (unsealed_narrows d key t).0

pub returns-clause-loads : goal.returns-clause-loads
returns-clause-loads c = λ by d t. (loaded_narrows by d t).0
