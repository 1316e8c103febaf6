-- That something follows after files.
use Rattle.std.specs.Prelude.{ℕ, ◌<◌, ◌≤◌, List, length, slice_index}
use Rattle.std.specs.List.{AllByRecursion}
use Rattle.def_program.specs.Commands.{Command}
use Rattle.def_program.specs.Calls.{most}
use Rattle.def_program.specs.Turns.{Turn, Follows}

-- what a file may hold: bytes, no more than are taken
pub record IsContent (bytes : List ℕ) : Type 0 where
  pub each : (i : ℕ) → slice_index bytes i < 256
  pub size : length bytes ≤ most

abbrev pub AreContents : List (List ℕ) → Type 0
AreContents files = AllByRecursion IsContent files

-- the turn of a command after these files
abbrev pub HasTurn : Command → List (List ℕ) → Type 0
HasTurn c files = (turn : Turn) × Follows c files turn
