-- The machine's board: what stands on it, which no event changes, and a machine as contracts see it.
use Rattle.std.specs.Prelude.{ℕ, List}
use Rattle.def_machine.specs.Image.{Image}
use Rattle.def_machine.specs.State.{State}

-- what never changes: the image, and where each device stands
pub record Platform : Type 0 where
  pub image : Image
  pub bases : List ℕ

-- a machine as contracts see it
pub record MachineRow : Type 0 where
  pub board : Platform
  pub state : State
