-- What ties what a machine tells to what it does, of one event, whatever the code bytes are.
use Rattle.def_machine.specs.Platform.{Platform}
use Rattle.def_machine.specs.State.{State}
use Rattle.def_step.specs.declared.Event.{Event}
use Rattle.def_truly.specs.Changes.{SilenceKeeps, TellsAll}
use Rattle.def_truly.specs.Deeds.{TellsTruly}
use Rattle.def_truly.specs.DeviceAccesses.{AccessesTold}
use Rattle.def_truly.specs.FailedChecks.{FailsTrap}
use Rattle.def_truly.specs.Instructions.{InstructionsKeep}
use Rattle.def_truly.specs.ThreadEnds.{EndsThread}
use Rattle.def_truly.specs.Turns.{TakesTurn, TicksStop, TurnsStay}

-- What is told was done; what is done is told, and so where nothing is told nothing is done; an access of a device is
-- told; a step whose check fails does nothing but trap; an instruction changes no register but the one that it names,
-- and interrupts by a jump alone; a thread ends with its only frame; the thread whose turn it is carries on; a tick
-- stops the one that runs; and no other event does.
pub record TellsExactly (b : Platform) (s : State) (e : Event) : Type 0 where
  pub truly : TellsTruly b s e
  pub all : TellsAll b s e
  pub silence : SilenceKeeps b s e
  pub accesses : AccessesTold b s
  pub fails : FailsTrap b s
  pub instructions : InstructionsKeep b s
  pub ends : EndsThread b s
  pub turns : TakesTurn b s
  pub ticks : TicksStop b s
  pub stays : TurnsStay b s
