-- How a call ends after the files that were read so far: at once, or after one more. What is seen of the folder and of
-- the sink is that after these files, and at the call's end.
use Rattle.std.specs.Prelude.{◌≡◌, ℕ, ◌⊎◌, List, [], ◌∷◌}
use Rattle.def_port.specs.Bytes.{SinkView}
use Rattle.def_port.specs.Told.{FolderView}
use Rattle.def_program.specs.declared.Status.{Status}
use Rattle.def_program.specs.Turns.{Turn}
use Rattle.def_program.specs.Turns as turn
use Rattle.ct_commands.specs.declared.files.Stop.{Stop}
use Rattle.ct_commands.specs.Whole.{WasGiven, NotGiven}
use Rattle.ct_commands.specs.Settled.{Settles}
use Rattle.ct_commands.specs.Stopped.{RefusesFile}

-- no file was read
pub record EndsAtOnce (Due : List (List ℕ) → Turn → Type 0) (folder folder_after : FolderView)
    (sink sink_after : SinkView) (result : Status) : Type 0 where
  pub calls : folder_after.calls ≡ folder.calls
  pub same : folder_after.faults ≡ folder.faults
  pub settles : Settles (Due []) sink sink_after result

-- one file was due, and was given whole
pub record EndsAfter (Due : List (List ℕ) → Turn → Type 0) (folder folder_after : FolderView)
    (sink sink_after : SinkView) (result : Status) : Type 0 where
  pub name : List ℕ
  pub asked : Due [] (turn.Asks name)
  pub bytes : List ℕ
  pub given : WasGiven name folder folder_after bytes
  pub settles : Settles (Due (bytes ∷ [])) sink sink_after result

-- one file was due, and wasn't given
pub record EndsWithout (Due : List (List ℕ) → Turn → Type 0) (folder folder_after : FolderView)
    (sink sink_after : SinkView) (result : Status) : Type 0 where
  pub name : List ℕ
  pub asked : Due [] (turn.Asks name)
  pub stop : Stop
  pub why : NotGiven name folder folder_after stop
  pub refused : RefusesFile stop sink sink_after result

-- what is due after some more files decides how the call ends
abbrev pub EndsBy : (List (List ℕ) → Turn → Type 0) → FolderView → FolderView → SinkView
    → SinkView → Status → Type 0
EndsBy Due folder folder_after sink sink_after result =
    EndsAtOnce Due folder folder_after sink sink_after result
    ⊎ EndsAfter Due folder folder_after sink sink_after result
    ⊎ EndsWithout Due folder folder_after sink sink_after result
