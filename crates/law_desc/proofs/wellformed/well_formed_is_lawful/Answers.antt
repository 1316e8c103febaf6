use Rattle.law_desc.proofs.Lawfuls.{value_lawful, bytes_lawful}
use Rattle.law_desc.proofs.wellformed.well_formed_is_lawful.Goals as goal

pub returns-clause-value : goal.returns-clause-value
returns-clause-value c = value_lawful

pub returns-clause-bytes : goal.returns-clause-bytes
returns-clause-bytes c = bytes_lawful
