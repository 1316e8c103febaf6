use Rattle.law_program.proofs.Lawful.{until_lawful, booted_lawful}
use Rattle.law_program.proofs.commands.runs_are_lawful.Goals as goal

pub returns : goal.returns
returns c = record { uncounted = until_lawful; booted = booted_lawful }
