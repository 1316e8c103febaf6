-- Calls beside one another: one reads what another wrote.
use Rattle.std.specs.Prelude.{◌≡◌, ◌⊎◌, ℕ, List, ◌++◌, Option, Some, None}
use Rattle.def_port.specs.Bytes.{Appends}
use Rattle.def_port.specs.Told.{FolderView, Silent}
use Rattle.def_program.specs.Answers.{Answers}
use Rattle.def_program.specs.Calls.{CallRecord}
use Rattle.def_program.specs.declared.Status.{Status}
use Rattle.def_program.specs.declared.Status.TheVariants as status

-- of each name a folder tells the file's bytes, or that there is none
abbrev pub TellsAll : FolderView → Type 0
TellsAll f = (name : List ℕ) → f.file name ≡ Silent → ⊥

-- of a script, where one is named, two folders tell the same
abbrev pub TellsSameScript : Option (List ℕ) → FolderView → FolderView → Type 0
TellsSameScript None one other = Unit {0}
TellsSameScript (Some name) one other = other.file name ≡ one.file name

-- a call is done, and its sink tells that this text was written
pub record IsDoneWith (e : CallRecord) (text : List ℕ) : Type 0 where
  pub done : Answers e status.Done
  pub before : List ℕ
  pub tells : e.sink.bytes ≡ Some before
  pub written : e.sink_after.bytes ≡ Some (before ++ text)

-- a call ends with this status and wrote this text, or memory was wanted
abbrev pub EndsUnlessWanting : CallRecord → Status → Status → List ℕ → Type 0
EndsUnlessWanting e s due text =
    ((s ≡ due) × Appends e.sink.bytes e.sink_after.bytes text) ⊎ (s ≡ status.NoMemory)
