-- What each event of a machine upholds, whatever its code bytes are.
use Rattle.def_machine.specs.Platform.{Platform}
use Rattle.def_machine.specs.State.{State}
use Rattle.def_step.specs.declared.Event.{Event}
use Rattle.def_step.specs.Events.{happens}
use Rattle.def_safety.specs.Attenuates.{LoadsAttenuate, StoresLocal}
use Rattle.def_safety.specs.Comes.{Stood}
use Rattle.def_safety.specs.Everywhere.{Everywhere}
use Rattle.def_safety.specs.Safety.{IsSafeEvent}
use Rattle.def_events.specs.Entering.{EntersFresh, HandlesByTraps, HandlesOnce, LastEnds}
use Rattle.def_events.specs.Holdings.{RunningHolds}
use Rattle.def_events.specs.Opened.{ComesOpened}
use Rattle.def_events.specs.Tokens.{KeepsTokens}

-- Calls are clean, accesses are licensed, no freed object is used, what is handed out is fresh, a trap is that of the
-- first check that fails, charges follow what is told, and what threads hold stays inside. Of every thread a frame
-- comes to be handling at most once, and only where a trap is told that enters its compartment's error handler; such a
-- trap is of a frame that wasn't: so a frame's handler is entered at most once. A trap of a thread's only frame that
-- enters none ends the thread. Keys and tokens are kept. Whatever stands anywhere after the event comes of what stood,
-- by its running thread, and what that thread holds comes of what it held; loads attenuate; and what is local is
-- stored through SL alone.
pub record Upholds (b : Platform) (s : State) (e : Event) : Type 0 where
  pub safe : IsSafeEvent b s e
  pub once : HandlesOnce b s e
  pub by_traps : HandlesByTraps b s e
  pub fresh : EntersFresh b s e
  pub last : LastEnds b s e
  pub tokens : KeepsTokens b s e
  pub derives : Everywhere (ComesOpened b (Stood s) s e) (happens b s e).0
  pub holds : RunningHolds b s
  pub attenuates : LoadsAttenuate b s
  pub local : StoresLocal b s
