-- What the program did: a call over the system's files, and the number that the process ends with.
use Rattle.std.specs.Prelude.{◌≡◌, ◌⊎◌, ℕ, List, [], Some}
use Rattle.def_image.specs.Parts.{PartsRow}
use Rattle.def_image.specs.Sound.{Sound}
use Rattle.def_port.specs.Bytes.{SinkView}
use Rattle.def_port.specs.Told.{FolderView, Silent}
use Rattle.def_program.specs.Allowing.{IsAllowed}
use Rattle.def_program.specs.Answers.{Answers}
use Rattle.def_program.specs.Calls.{CallRecord, call_record}
use Rattle.def_program.specs.Codes.{code_of}
use Rattle.def_program.specs.Commands.{Command, command_form}
use Rattle.def_program.specs.Deciding.{IsDecided}
use Rattle.def_program.specs.Licences.{IsLicensedCommand, StandFor}
use Rattle.def_program.specs.Safe.{IsSafeCommand}
use Rattle.def_program.specs.Written.{IsRunWritten}
use Rattle.def_program.specs.declared.Status.{Status}
use Rattle.def_program.specs.declared.Status.TheVariants as status

-- files of which nothing is told, and none of which was read yet
abbrev pub untold : FolderView
untold = record { file = λ name. Silent; calls = []; faults = 0 }

-- what `capfw` says of a call
pub record IsCall (e : CallRecord) (s : Status) : Type 0 where
  pub answer : Answers e s
  pub decided : IsDecided e s
  pub written : IsRunWritten e s
  pub allowed : IsAllowed e s
  pub sound : (asked : Command) (files : List (List ℕ)) (p : PartsRow)
      → StandFor asked files p → Sound p
  pub licensed : (asked : Command) (p : PartsRow)
      → command_form e.words ≡ Some asked → Sound p → IsLicensedCommand asked p
  pub safe : (asked : Command) (p : PartsRow)
      → command_form e.words ≡ Some asked → Sound p → IsSafeCommand asked p

-- the program ran on these words, over untold files
pub record Ran (words : List (List ℕ)) (before after : SinkView) (s : Status) : Type 0 where
  pub folder : FolderView
  pub folder_after : FolderView
  pub fresh : folder ≡ untold
  pub call : IsCall (call_record words folder folder_after before after) s

-- and the process ends with the number of its status
pub record RanAndEnded (words : List (List ℕ)) (before after : SinkView) (number : ℕ)
    : Type 0 where
  pub status : Status
  pub ran : Ran words before after status
  pub number_is : number ≡ code_of status

-- memory was wanted for the words: nothing was written
pub record WantedWords (before after : SinkView) (number : ℕ) : Type 0 where
  pub same : after ≡ before
  pub number_is : number ≡ code_of status.NoMemory

-- of some words, which a command line gave
pub record RanOnSome (before after : SinkView) (number : ℕ) : Type 0 where
  pub words : List (List ℕ)
  pub ended : RanAndEnded words before after number

abbrev pub HasEnded : SinkView → SinkView → ℕ → Type 0
HasEnded before after number = RanOnSome before after number ⊎ WantedWords before after number
