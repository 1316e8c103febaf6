-- How a call ends where the folder tells the files that are due: as the dialogue over these files does, unless memory
-- is wanted.
use Rattle.std.specs.Prelude.{◌≡◌, ◌<◌, ◌⊎◌, ℕ, List, length, take, Some, slice_get}
use Rattle.def_port.specs.Told.{Absent, File}
use Rattle.def_program.specs.Answers.{Read, contents}
use Rattle.def_program.specs.Calls.{CallRecord, most}
use Rattle.def_program.specs.Commands.{Command, command_form}
use Rattle.def_program.specs.Completing.{IsTold, NoFault}
use Rattle.def_program.specs.Turns.{Turn, Asks, Ends, Follows}
use Rattle.def_program.specs.declared.Status.{Status}
use Rattle.def_program.specs.declared.Status.TheVariants as status

-- a file that is due after those before it, and that the folder tells
pub record IsToldWhenDue (e : CallRecord) (c : Command) (files : List Read) (k : ℕ) (f : Read)
    : Type 0 where
  pub asked : Follows c (contents (take k files)) (Asks f.name)
  pub told : IsTold e f.name f.bytes

-- the dialogue over files that the folder tells, each due after those before it, comes to this turn
pub record ComesTo (e : CallRecord) (c : Command) (turn : Turn) : Type 0 where
  pub files : List Read
  pub told : (k : ℕ) (f : Read) → slice_get files k ≡ Some f → IsToldWhenDue e c files k f
  pub follows : Follows c (contents files) turn

abbrev pub OrNoMemory : Status → Status → Type 0
OrNoMemory s due = (s ≡ due) ⊎ (s ≡ status.NoMemory)

-- Where no fault is counted and the dialogue ends with a status, so does the call, or memory was wanted. Where the
-- dialogue asks for a file that is told to be too large, it is TooLarge; where for one that is told to be absent,
-- ReadFault, unless a write failed.
pub record IsDecided (e : CallRecord) (s : Status) : Type 0 where
  pub ends : (c : Command) (due : Status) (text : List ℕ)
      → command_form e.words ≡ Some c → ComesTo e c (Ends due text) → NoFault e → OrNoMemory s due
  pub large : (c : Command) (name bytes : List ℕ)
      → command_form e.words ≡ Some c → ComesTo e c (Asks name)
      → e.folder.file name ≡ File bytes → most < length bytes
      → NoFault e → OrNoMemory s status.TooLarge
  pub absent : (c : Command) (name : List ℕ)
      → command_form e.words ≡ Some c → ComesTo e c (Asks name) → e.folder.file name ≡ Absent
      → OrNoMemory s status.ReadFault ⊎ (s ≡ status.WriteFault)
