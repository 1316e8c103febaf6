use Rattle.law_desc.proofs.Judging.{one, not_both, same_rows, same_fault}
use Rattle.law_desc.proofs.answers.one_or_the_other.Goals as goal

pub returns-clause-one : goal.returns-clause-one
returns-clause-one c = one

pub returns-clause-not_both : goal.returns-clause-not_both
returns-clause-not_both c = not_both

pub returns-clause-same_rows : goal.returns-clause-same_rows
returns-clause-same_rows c = same_rows

pub returns-clause-same_fault : goal.returns-clause-same_fault
returns-clause-same_fault c = same_fault
