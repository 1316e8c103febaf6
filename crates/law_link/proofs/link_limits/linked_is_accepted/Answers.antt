use Rattle.law_link.proofs.Whole.{faultless, written, alone, no_fault_written}
use Rattle.law_link.proofs.link_limits.linked_is_accepted.Goals as goal

pub returns-clause-parts : goal.returns-clause-parts
returns-clause-parts c = faultless

pub returns-clause-image : goal.returns-clause-image
returns-clause-image c = written

pub returns-clause-alone : goal.returns-clause-alone
returns-clause-alone c = alone

pub returns-clause-faultless : goal.returns-clause-faultless
returns-clause-faultless c = no_fault_written
