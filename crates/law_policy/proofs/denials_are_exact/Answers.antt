use Rattle.ct_policy.proofs.Untrusted.{untrusted}
use Rattle.law_policy.proofs.Denials.{denials_there, holds_where, none_where, same_denials}
use Rattle.law_policy.proofs.denials_are_exact.Goals as goal

pub returns-clause-there : goal.returns-clause-there
returns-clause-there c = λ p text rulings faultless reads. denials_there p faultless 1 rulings (untrusted p text rulings reads)

pub returns-clause-one : goal.returns-clause-one
returns-clause-one c = λ p rulings a b. same_denials p 1 rulings a b

pub returns-clause-empty : goal.returns-clause-empty
returns-clause-empty c = λ p rulings text denied. (holds_where p 1 rulings text denied, none_where p 1 rulings text denied)
