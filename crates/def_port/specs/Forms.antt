-- Folders and sinks that are kept in memory: what they hold, and when a call of theirs fails.
use Rattle.std.specs.Prelude.{◌≡◌, ℕ, ◌+◌, ◌<◌, List, [], ◌∷◌, ◌++◌, length, Bool, true, false, ◌||◌, if◌then◌else◌, nat_eq, nat_le, Option, Some, None, is_none, get_or, take, Result, Ok, Err, min, ◌-◌, ◌^◌, not, ◌&&◌}
use Rattle.def_port.specs.declared.faults.ReadError.{ReadError}
use Rattle.def_port.specs.declared.faults.ReadError.TheVariants.{Failed, NoMemory}
use Rattle.std.specs.Str.{bytes_eq}
use Rattle.def_port.specs.Bytes.{SinkView}
use Rattle.def_port.specs.Told.{Told, Silent, Absent, File, Call, FolderView}

-- a file: the bytes of its name, and its bytes
pub record FileRow : Type 0 where
  pub name : List ℕ
  pub bytes : List ℕ

-- the file that a name stands for: the first of that name
abbrev pub file_named : List FileRow → List ℕ → Option (List ℕ)
file_named [] name = None
file_named (f ∷ fs) name = if bytes_eq f.name name then Some f.bytes else file_named fs name

-- the first file of this name stands here
pub record IsFirstOf (files : List FileRow) (name : List ℕ) (i : ℕ) : Type 0 where
  pub inside : i < length files
  pub here : (z : FileRow) → bytes_eq (get_or files i z).name name ≡ true
  pub earlier : file_named (take i files) name ≡ None

-- a folder in memory tells of each name that it is a file or that there is none
abbrev pub told_as : Option (List ℕ) → Told
told_as None = Absent
told_as (Some bytes) = File bytes

-- a steady folder has an empty file for each other name
abbrev pub steady_as : Option (List ℕ) → List ℕ
steady_as None = []
steady_as (Some bytes) = bytes

pub record FolderRow : Type 0 where
  pub files : List FileRow
  pub fails : List ℕ
  pub calls : List Call
  pub faults : ℕ

abbrev pub folder_view : FolderRow → FolderView
folder_view f = record {
  file = λ name. told_as (file_named f.files name);
  calls = f.calls;
  faults = f.faults;
}

abbrev pub is_listed : List ℕ → ℕ → Bool
is_listed [] call = false
is_listed (n ∷ ns) call = nat_eq n call || is_listed ns call

-- The next call fails: its number, counted from 1 in the list of calls, is listed, or no file has
-- the name.
abbrev pub fails_next : FolderRow → List ℕ → Bool
fails_next f name = is_listed f.fails (length f.calls + 1) || is_none (file_named f.files name)

-- A read fails exactly where it is told to; want of memory may come at any time.
abbrev pub FailsAsTold : {A : Type 0} → FolderRow → List ℕ → Result A ReadError → Type 0
FailsAsTold f name (Ok bytes) = fails_next f name ≡ false
FailsAsTold f name (Err Failed) = fails_next f name ≡ true
FailsAsTold f name (Err NoMemory) = Unit {0}

-- a folder that never fails: its files and calls
pub record SteadyRow : Type 0 where
  pub files : List FileRow
  pub calls : List Call

-- its count of faults is the constant 0
abbrev pub steady_view : SteadyRow → FolderView
steady_view f = record {
  file = λ name. File (steady_as (file_named f.files name));
  calls = f.calls;
  faults = 0;
}

-- a folder that tells nothing of its files
pub record DiskRow : Type 0 where
  pub calls : List Call
  pub faults : ℕ

abbrev pub disk_view : DiskRow → FolderView
disk_view f = record { file = λ name. Silent; calls = f.calls; faults = f.faults }

-- a sink that tells no bytes and never fails
abbrev pub steady_sink : SinkView
steady_sink = record { bytes = None; faults = 0 }

abbrev pub NeverFails : {A : Type 0} → Result A ReadError → Type 0
NeverFails (Ok bytes) = Unit {0}
NeverFails (Err Failed) = ⊥
NeverFails (Err NoMemory) = Unit {0}

-- a count that stands still at 2^64 - 1
abbrev pub count_after : ℕ → ℕ
count_after count = min (count + 1) (2 ^ 64 - 1)

-- A sink in memory: its bytes, how many it has room for, which calls fail, how many calls came
-- (the number stands still at 2^64 - 1), and the count of faults.
pub record SinkRow : Type 0 where
  pub bytes : List ℕ
  pub room : ℕ
  pub fails : List ℕ
  pub calls : ℕ
  pub faults : ℕ

abbrev pub sink_view : SinkRow → SinkView
sink_view s = record { bytes = Some s.bytes; faults = s.faults }

-- the write that comes next is listed
abbrev pub is_told_to_fail : SinkRow → Bool
is_told_to_fail s = is_listed s.fails (count_after s.calls)

abbrev pub fits : SinkRow → List ℕ → Bool
fits s piece = nat_le (length s.bytes + length piece) s.room

-- A write that is told to fail takes nothing; one past the room takes what fits; both are faults.
abbrev pub sink_taking : SinkRow → List ℕ → SinkRow
sink_taking s piece = if fits s piece
    then record s { bytes = s.bytes ++ piece; calls = count_after s.calls }
    else record s {
      bytes = s.bytes ++ take (s.room - length s.bytes) piece;
      calls = count_after s.calls;
      faults = count_after s.faults;
    }

abbrev pub sink_written : SinkRow → List ℕ → SinkRow
sink_written s piece =
    if is_told_to_fail s then record s { calls = count_after s.calls; faults = count_after s.faults }
    else sink_taking s piece

-- no other write fails
abbrev pub succeeds : SinkRow → List ℕ → Bool
succeeds s piece = not (is_told_to_fail s) && fits s piece
