use Rattle.law_program.proofs.Allowing.{allows}
use Rattle.law_program.proofs.Deciding.{decides}
use Rattle.law_program.proofs.Licences.{command_licensed, stands_sound}
use Rattle.law_program.proofs.Safe.{command_safe}
use Rattle.law_program.proofs.Written.{run_written}
use Rattle.ct_top.proofs.capfw.Goals as goal

pub returns-clause-decided : goal.returns-clause-decided
returns-clause-decided g c = decides _ c.command.result c.command.ensures

pub returns-clause-written : goal.returns-clause-written
returns-clause-written g c = run_written _ c.command.result c.command.ensures

pub returns-clause-allowed : goal.returns-clause-allowed
returns-clause-allowed g c = allows _ c.command.result c.command.ensures

pub returns-clause-sound : goal.returns-clause-sound
returns-clause-sound g c = stands_sound

pub returns-clause-licensed : goal.returns-clause-licensed
returns-clause-licensed g c = λ asked p form sound. command_licensed asked p sound

pub returns-clause-safe : goal.returns-clause-safe
returns-clause-safe g c = λ asked p form sound. command_safe asked p sound
