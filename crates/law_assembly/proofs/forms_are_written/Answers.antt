use Rattle.law_assembly.proofs.Forms.{forms, directives}
use Rattle.law_assembly.proofs.forms_are_written.Goals as goal

pub returns-clause-statements : goal.returns-clause-statements
returns-clause-statements c = forms

pub returns-clause-directives : goal.returns-clause-directives
returns-clause-directives c = directives
