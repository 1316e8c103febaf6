-- What a read of a folder did.
use Rattle.std.specs.Prelude.{◌≡◌, ℕ, ◌+◌, ◌≤◌, List, [], ◌∷◌, ◌++◌, length, Bool, true, false}
use Rattle.def_port.specs.declared.faults.ReadError.{ReadError}
use Rattle.def_port.specs.declared.faults.ReadError.TheVariants.{Failed, NoMemory}
use Rattle.def_port.specs.Bytes.{FaultsRose}
use Rattle.def_port.specs.Told.{Told, FileGives, Call, FolderView}

-- the list of calls after one more
abbrev pub recorded : List Call → List ℕ → ℕ → Bool → List Call
recorded before name limit failed =
    before ++ (record { name = name; limit = limit; failed = failed }) ∷ []

-- the bytes came, the call is recorded, and no fault was counted
pub record Reads (name : List ℕ) (limit : ℕ) (before after : FolderView) (bytes : List ℕ)
    : Type 0 where
  pub size : length bytes ≤ limit + 1
  pub gives : FileGives (before.file name) limit bytes
  pub call : after.calls ≡ recorded before.calls name limit false
  pub same : after.faults ≡ before.faults

-- a failure is recorded and counted; a call that wanted memory changed nothing
abbrev pub ReadFails : List ℕ → ℕ → FolderView → FolderView → ReadError → Type 0
ReadFails name limit before after Failed =
    (after.calls ≡ recorded before.calls name limit true) × FaultsRose before.faults after.faults
ReadFails name limit before after NoMemory =
    (after.calls ≡ before.calls) × (after.faults ≡ before.faults)
