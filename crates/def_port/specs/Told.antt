-- What a folder tells of a name, its list of calls, and what is seen of it.
use Rattle.std.specs.Prelude.{◌≡◌, ℕ, ◌+◌, List, take, Bool}

-- Of a name a folder tells nothing, or that no file has it, or the file's bytes.
pub data Told : Type 0 where
  Silent : Told
  Absent : Told
  File : List ℕ → Told

-- What a read with this limit gives: the whole file where it has at most that many bytes, else its
-- first limit + 1. A name that is told to be absent gives nothing.
abbrev pub FileGives : Told → ℕ → List ℕ → Type 0
FileGives Silent limit bytes = Unit {0}
FileGives Absent limit bytes = ⊥
FileGives (File all) limit bytes = bytes ≡ take (limit + 1) all

-- a call: the name that was read, the limit that it was read with, and whether the read failed
pub record Call : Type 0 where
  pub name : List ℕ
  pub limit : ℕ
  pub failed : Bool

-- what is seen of a folder: what it tells of each name, its calls so far, and its count of faults
pub record FolderView : Type 0 where
  pub file : List ℕ → Told
  pub calls : List Call
  pub faults : ℕ

-- a folder tells of each name the same as before
abbrev pub TellsSame : FolderView → FolderView → Type 0
TellsSame before after = (name : List ℕ) → after.file name ≡ before.file name
