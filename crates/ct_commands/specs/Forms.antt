-- The command that a form stands for.
use Rattle.std.specs.Prelude.{ℕ, ◌≤◌, List, Option, Some, None}
use denote.Bor.{Bor}
use Rattle.def_profile.specs.declared.limits.TheConstants.{MOST_STEPS}
use Rattle.def_program.specs.Commands as command
use Rattle.def_program.specs.Commands.{Command}
use Rattle.ct_commands.specs.declared.words.Form.{Form}
use Rattle.ct_commands.specs.declared.words.Task.{Task}
use Rattle.ct_commands.specs.declared.words.Task.TheVariants.{Audit, Image, Run, RunImage, Why, Upgrade, Check, Demo}

-- the name of a script, where there is one
abbrev pub script_named : Option (Bor (List ℕ)) → Option (List ℕ)
script_named None = None
script_named (Some name) = Some name.now

abbrev pub command_for : List ℕ → Task → Command
command_for name Audit = command.Audit name
command_for name Image = command.Image name
command_for name (Run limit script) = command.Run name limit (script_named script)
command_for name (RunImage limit script) = command.RunImage name limit (script_named script)
command_for name (Why owner compartment) = command.Why name owner.now compartment.now
command_for name Upgrade = command.Upgrade name
command_for name (Check policy) = command.Check name policy.now
command_for name (Demo number) = command.Demo number

abbrev pub command_of : Form → Command
command_of f = command_for f.name.now f.task

-- a run of at most so many steps as a machine makes
abbrev pub IsShort : Task → Type 0
IsShort (Run limit script) = limit ≤ MOST_STEPS
IsShort (RunImage limit script) = limit ≤ MOST_STEPS
IsShort _ = Unit {0}
