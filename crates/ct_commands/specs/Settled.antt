-- What ends the dialogue: a text of the last turn, or want of memory.
use Rattle.std.specs.Prelude.{ℕ, List, ◌⊎◌}
use Rattle.def_port.specs.Bytes.{SinkView}
use Rattle.def_program.specs.declared.Status.{Status}
use Rattle.def_program.specs.declared.Status.TheVariants as status
use Rattle.def_program.specs.Turns.{Turn}
use Rattle.def_program.specs.Turns as turn
use Rattle.ct_commands.specs.Closing.{Closes, WroteNothing}

-- the statuses that a last turn may have
abbrev pub IsLast : Status → Type 0
IsLast status.Done = Unit {0}
IsLast status.Usage = ⊥
IsLast status.ReadFault = ⊥
IsLast status.TooLarge = ⊥
IsLast status.Description = Unit {0}
IsLast status.Assembly = Unit {0}
IsLast status.Link = Unit {0}
IsLast status.Image = Unit {0}
IsLast status.Script = Unit {0}
IsLast status.WriteFault = ⊥
IsLast status.NoMemory = ⊥
IsLast status.Name = Unit {0}
IsLast status.Denied = Unit {0}
IsLast status.Policy = Unit {0}

-- the call ends with a turn that is due, and its text was written or a write failed
pub record Settled (Due : Turn → Type 0) (before after : SinkView) (result : Status) : Type 0 where
  pub status : Status
  pub text : List ℕ
  pub last : IsLast status
  pub due : Due (turn.Ends status text)
  pub closes : Closes before after text status result

-- or memory was wanted before
abbrev pub Settles : (Turn → Type 0) → SinkView → SinkView → Status → Type 0
Settles Due before after result = Settled Due before after result ⊎ WroteNothing before after result
