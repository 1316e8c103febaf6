-- A call of the program, from both ends, and what a folder tells of a file.
use Rattle.std.specs.Prelude.{◌≡◌, ℕ, ◌+◌, ◌<◌, ◌≤◌, List, length}
use Rattle.def_profile.specs.declared.limits.TheConstants.{MOST_FILE}
use Rattle.def_port.specs.Bytes.{SinkView}
use Rattle.def_port.specs.Told.{Told, Silent, Absent, File, FileGives, FolderView}

-- a file has at most this many bytes
abbrev pub most : ℕ
most = MOST_FILE

-- a call: its words, and what is seen of the folder and of the sink before it and after
pub record CallRecord : Type 0 where
  pub words : List (List ℕ)
  pub folder : FolderView
  pub folder_after : FolderView
  pub sink : SinkView
  pub sink_after : SinkView

abbrev pub call_record : List (List ℕ) → FolderView → FolderView → SinkView → SinkView → CallRecord
call_record words folder folder_after sink sink_after = record {
  words = words;
  folder = folder;
  folder_after = folder_after;
  sink = sink;
  sink_after = sink_after;
}

-- ---- files

-- the file of this name holds these bytes, where the folder tells it
abbrev pub FileHolds : Told → List ℕ → Type 0
FileHolds Silent bytes = Unit {0}
FileHolds Absent bytes = ⊥
FileHolds (File all) bytes = all ≡ bytes

-- the file is larger than any that is taken, where the folder tells it
abbrev pub IsLarge : Told → Type 0
IsLarge Silent = Unit {0}
IsLarge Absent = ⊥
IsLarge (File all) = most < length all

-- a file was given whole
pub record IsFile (told : Told) (bytes : List ℕ) : Type 0 where
  pub holds : FileHolds told bytes
  pub size : length bytes ≤ most

-- a file gave one byte more than a file may have
pub record Exceeds (told : Told) : Type 0 where
  pub bytes : List ℕ
  pub gives : FileGives told most bytes
  pub size : length bytes ≡ most + 1
  pub large : IsLarge told
