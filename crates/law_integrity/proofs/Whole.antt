-- *Integrity*, its corollaries of one event, and both of lists of events.
use Rattle.std.proofs.Common.{List, [], ◌∷◌}
use Rattle.def_machine.specs.Platform.{Platform}
use Rattle.def_machine.specs.State.{State}
use Rattle.def_confined.specs.Facts.{Facts}
use Rattle.def_confined.specs.Keeps.{Keeps}
use Rattle.def_confined.specs.Partitioned.{Partitioned}
use Rattle.def_step.specs.declared.Event.{Event}
use Rattle.def_step.specs.Events.{happens}
use Rattle.def_safety.specs.Each.{EachEvent}
use Rattle.def_safety.specs.Wired.{Wired}
use Rattle.def_integrity.specs.Homes.{HomesKept, HomesStay}
use Rattle.def_integrity.specs.Integrity.{Integrity}
use Rattle.law_events.proofs.Events.{event_keeps}
use Rattle.law_integrity.proofs.Devices.{devices_kept}
use Rattle.law_integrity.proofs.Events.{granules_kept}
use Rattle.law_integrity.proofs.Frames.{own_frames}
use Rattle.law_integrity.proofs.HeapRows.{rows_kept}
use Rattle.law_integrity.proofs.Homes.{code_stays, globals_kept, own_globals, globals_stay, stacks_kept, stacks_stay, imports_kept, imports_stay}
use Rattle.law_integrity.proofs.Imports.{devices_held, devices_stay}
use Rattle.law_integrity.proofs.Objects.{objects_kept, objects_stay}
use Rattle.law_integrity.proofs.ThreadEvents.{threads_kept}
use Rattle.law_integrity.proofs.ThreadsStay.{threads_stay}

pub event_kept : (b : Platform) (s : State) (e : Event) → Partitioned b.image → Facts b.image → Wired b → Keeps b.image s → Integrity b s e
event_kept b s e parts facts wired k = record {
  granules = granules_kept b s e parts facts wired k;
  threads = threads_kept b s e parts k;
  devices = devices_kept b s e parts k;
  rows = rows_kept b s e parts k;
}

pub homes_kept : (b : Platform) (s : State) (e : Event) → Partitioned b.image → Facts b.image → Wired b → Keeps b.image s → HomesKept b s e
homes_kept b s e parts facts wired k = record {
  globals = globals_kept b s e parts facts wired k;
  own = own_globals b s e (globals_kept b s e parts facts wired k);
  stacks = stacks_kept b s e parts facts wired k;
  imports = imports_kept b s e parts facts wired k;
  objects = objects_kept b s e parts facts wired k;
  devices = devices_held b s e parts wired k;
  frames = own_frames b s e;
}

-- what holds of each event that a confined state finds holds of each event of a list
pub each_kept : (P : State → Event → Type 0) (b : Platform) → Partitioned b.image → Facts b.image → Wired b → ((s : State) (e : Event) → Keeps b.image s → P s e) → (s : State) (es : List Event) → Keeps b.image s → EachEvent P b s es
each_kept P b parts facts wired h s [] k = tt
each_kept P b parts facts wired h s (e ∷ es) k = (h s e k, each_kept P b parts facts wired h (happens b s e).0 es (event_keeps b s e parts facts wired k))

pub events_kept : (b : Platform) (s : State) (es : List Event) → Partitioned b.image → Facts b.image → Wired b → Keeps b.image s → EachEvent (Integrity b) b s es
events_kept b s es parts facts wired k = each_kept (Integrity b) b parts facts wired (λ z e keeps. event_kept b z e parts facts wired keeps) s es k

pub each_homes_kept : (b : Platform) (s : State) (es : List Event) → Partitioned b.image → Facts b.image → Wired b → Keeps b.image s → EachEvent (HomesKept b) b s es
each_homes_kept b s es parts facts wired k = each_kept (HomesKept b) b parts facts wired (λ z e keeps. homes_kept b z e parts facts wired keeps) s es k

pub homes_stay : (b : Platform) (s : State) (es : List Event) → Partitioned b.image → Facts b.image → Wired b → Keeps b.image s → HomesStay b s es
homes_stay b s es parts facts wired k = record {
  code = code_stays b s es parts facts wired k;
  globals = globals_stay b s es parts facts wired k;
  stacks = stacks_stay b s es parts facts wired k;
  threads = threads_stay b s es parts facts wired k;
  imports = imports_stay b s es parts facts wired k;
  objects = objects_stay b s es parts facts wired k;
  devices = devices_stay b s es parts facts wired k;
}
