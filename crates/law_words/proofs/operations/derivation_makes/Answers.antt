use Rattle.law_words.proofs.Making.{derive_makes}
use Rattle.law_words.proofs.operations.derivation_makes.Goals as goal

pub returns-clause-made : goal.returns-clause-made
returns-clause-made c = λ high base length set address kind from d. (derive_makes high base length set address kind from d).0

pub returns-clause-shadows : goal.returns-clause-shadows
returns-clause-shadows c = λ high base length set address kind from d. (derive_makes high base length set address kind from d).1
