-- *Integrity*: of one event, whatever it changes it changes for a reason that is listed.
use Rattle.def_machine.specs.Platform.{Platform}
use Rattle.def_machine.specs.State.{State}
use Rattle.def_step.specs.declared.Event.{Event}
use Rattle.def_integrity.specs.Devices.{DevicesKept}
use Rattle.def_integrity.specs.HeapRows.{RowsTouched}
use Rattle.def_integrity.specs.Threads.{ThreadsKept}
use Rattle.def_integrity.specs.Touched.{GranulesKept}

-- Granules, threads, devices, and the heap's rows. What else a state has is the scheduler's: who runs,
-- whether a tick is pending, the time, the order of picks, the front of a sweep, and counts.
pub record Integrity (b : Platform) (s : State) (e : Event) : Type 0 where
  pub granules : GranulesKept b s e
  pub threads : ThreadsKept b s e
  pub devices : DevicesKept b s e
  pub rows : RowsTouched b s e
