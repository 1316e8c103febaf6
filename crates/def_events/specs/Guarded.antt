-- What a machine's type keeps: its image and devices stand as the laws ask, what entries reach lies inside, and no
-- entry reaches what is hidden; its state is *Confined*, what stands beside holds, what is untagged is settled, what
-- is hidden is zero, each row of a key or a token is of a live object, what is sealed as a token is of a whole
-- object, the thread that runs has a frame, and what is local stands in stacks. From it every deed and every span
-- with interrupts off of the next event is licensed, and is what was done; and it holds again after the event.
use Rattle.def_confined.specs.Keeps.{Keeps}
use Rattle.def_confined.specs.Partitioned.{Partitioned}
use Rattle.def_confined.specs.Settled.{Settled}
use Rattle.def_confined.specs.Facts.{Facts}
use Rattle.def_hidden.specs.Hidden.{Blank, Shut}
use Rattle.def_machine.specs.Platform.{MachineRow}
use Rattle.def_safety.specs.Attenuates.{LocalsInStacks}
use Rattle.def_safety.specs.Inside.{Inside}
use Rattle.def_safety.specs.Wired.{Wired}
use Rattle.def_safety.specs.Tokened.{Tokened}
use Rattle.def_machine.specs.Rows.{RowsFit}
use Rattle.def_events.specs.Running.{RunsFramed}

pub record Guarded (m : MachineRow) : Type 0 where
  pub partitioned : Partitioned m.board.image
  pub facts : Facts m.board.image
  pub wired : Wired m.board
  pub inside : Inside m.board
  pub shut : Shut m.board.image
  pub keeps : Keeps m.board.image m.state
  pub settled : Settled m.state
  pub blank : Blank m.board.image m.state
  pub rows : RowsFit m.state.objects m.state.tokens
  pub tokened : Tokened m.board.image m.state
  pub framed : RunsFramed m.state
  pub locals : LocalsInStacks m.board.image m.state
