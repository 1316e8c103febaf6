use Rattle.law_program.proofs.Licences.{command_licensed, stands_sound}
use Rattle.law_program.proofs.Safe.{command_safe}
use Rattle.law_program.proofs.commands.commands_are_safe.Goals as goal

pub returns : goal.returns
returns c = record { sound = stands_sound; licensed = command_licensed; safe = command_safe }
