use Rattle.law_policy.proofs.Texts.{not_both, one_fault, one_reading}
use Rattle.law_policy.proofs.There.{policy_or_fault}
use Rattle.law_policy.proofs.texts_say_one_thing.Goals as goal

pub returns-clause-told : goal.returns-clause-told
returns-clause-told c = policy_or_fault

pub returns-clause-never_both : goal.returns-clause-never_both
returns-clause-never_both c = not_both

pub returns-clause-rules : goal.returns-clause-rules
returns-clause-rules c = one_reading

pub returns-clause-fault : goal.returns-clause-fault
returns-clause-fault c = one_fault
