use Rattle.law_link.proofs.Built.{compartment_built, library_built}
use Rattle.law_link.proofs.link_code.code_is_built.Goals as goal

pub returns-clause-compartments : goal.returns-clause-compartments
returns-clause-compartments c = compartment_built

pub returns-clause-libraries : goal.returns-clause-libraries
returns-clause-libraries c = library_built
