use Rattle.law_assembly.proofs.Faults.{line_least, line_clean, source_first, source_clean}
use Rattle.law_assembly.proofs.source.faults_are_least.Goals as goal

pub returns-clause-line : goal.returns-clause-line
returns-clause-line c = line_least

pub returns-clause-lawful : goal.returns-clause-lawful
returns-clause-lawful c = line_clean

pub returns-clause-source : goal.returns-clause-source
returns-clause-source c = source_first

pub returns-clause-statements : goal.returns-clause-statements
returns-clause-statements c = source_clean
