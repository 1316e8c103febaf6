use Rattle.law_program.proofs.Allowing.{allows}
use Rattle.law_program.proofs.commands.allowed_policies_are_kept.Goals as goal

pub returns : goal.returns
returns c = allows
