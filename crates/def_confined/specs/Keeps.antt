-- What every event keeps of a state: that it is confined, and what stands beside.
use Rattle.def_machine.specs.Image.{Image}
use Rattle.def_machine.specs.State.{State}
use Rattle.def_confined.specs.Confined.{Confined}
use Rattle.def_confined.specs.Holding.{EndsFit}
use Rattle.def_confined.specs.Swept.{Swept, Bounded}

-- part 8, where the places of threads are, and which threads have ended
pub record Beside (i : Image) (s : State) : Type 0 where
  pub swept : Swept i s
  pub bounded : Bounded i s
  pub ends : EndsFit s

pub record Keeps (i : Image) (s : State) : Type 0 where
  pub confined : Confined i s
  pub beside : Beside i s
