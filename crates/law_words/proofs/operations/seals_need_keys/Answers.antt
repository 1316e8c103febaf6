use Rattle.law_words.proofs.Sealed.{sealed_narrows, unsealed_narrows}
use Rattle.law_words.proofs.operations.seals_need_keys.Goals as goal

pub returns-clause-seals : goal.returns-clause-seals
returns-clause-seals c = λ d key t. (sealed_narrows d key t).1

pub returns-clause-unseals : goal.returns-clause-unseals
returns-clause-unseals c = λ d key t. (unsealed_narrows d key t).1
