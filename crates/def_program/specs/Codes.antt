-- The number of each status.
use Rattle.std.specs.Prelude.{ℕ}
use Rattle.def_program.specs.declared.Status.{Status}
use Rattle.def_program.specs.declared.Status.TheVariants as status

abbrev pub code_of : Status → ℕ
code_of status.Done = 0
code_of status.Usage = 1
code_of status.ReadFault = 2
code_of status.TooLarge = 3
code_of status.Description = 4
code_of status.Assembly = 5
code_of status.Link = 6
code_of status.Image = 7
code_of status.Script = 8
code_of status.WriteFault = 9
code_of status.NoMemory = 10
code_of status.Name = 11
code_of status.Denied = 12
code_of status.Policy = 13
