-- What holds of each event of a machine, whatever its code bytes are.
use Rattle.def_machine.specs.Platform.{Platform}
use Rattle.def_machine.specs.State.{State}
use Rattle.def_step.specs.declared.Event.{Event}
use Rattle.def_safety.specs.Accesses.{UsesReach}
use Rattle.def_safety.specs.Calls.{CleanEvent}
use Rattle.def_safety.specs.Charges.{ChargesFollow}
use Rattle.def_safety.specs.Each.{ready}
use Rattle.def_safety.specs.Temporal.{AllocatesFresh, UsesLive}
use Rattle.def_safety.specs.Traps.{TrapsFirst}
use Rattle.def_safety.specs.Within.{ThreadsWithin}

-- Calls, returns, unwinds and error handlers lead where they should, clean; each access is licensed, and goes through no
-- capability of an object after its free; an allocation hands out a fresh object; a trap is that of the first check that
-- fails; charges follow what is told; and what threads hold reaches RAM, devices and native entries alone.
pub record IsSafeEvent (b : Platform) (s : State) (e : Event) : Type 0 where
  pub calls : CleanEvent b s e
  pub accesses : UsesReach b s
  pub unused : UsesLive b s
  pub fresh : AllocatesFresh b s e
  pub traps : TrapsFirst b s e
  pub charged : ChargesFollow b s e
  pub within : ThreadsWithin b (ready b s)
