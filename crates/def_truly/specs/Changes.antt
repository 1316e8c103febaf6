-- What is done is told: what an event may change of devices, frames, the heap and interrupts where
-- it tells nothing of it.
use Rattle.std.specs.Prelude.{ℕ, ◌≡◌, ◌≤◌, ◌⊎◌, true, cond, List, [], ◌∷◌, length, Option, Some, None}
use Rattle.ct_entry.specs.declared.acts.Act.{Act}
use Rattle.ct_entry.specs.declared.acts.Act.TheVariants.{Call, Load, Store, Allocate, Free}
use Rattle.ct_entry.specs.declared.acts.Deed.{Deed}
use Rattle.def_machine.specs.Objects.{charges}
use Rattle.def_machine.specs.Platform.{Platform}
use Rattle.def_machine.specs.State.{State, Object, thread}
use Rattle.def_step.specs.declared.Event.{Event}
use Rattle.def_step.specs.declared.Event.TheVariants.{Input}
use Rattle.def_step.specs.Events.{happens}

-- ---- what is told

abbrev pub IsDeviceAct : Act → Type 0
IsDeviceAct (Load address width value) = Unit {0}
IsDeviceAct (Store address width value) = Unit {0}
IsDeviceAct _ = ⊥

abbrev pub IsCallAct : Act → Type 0
IsCallAct (Call export) = Unit {0}
IsCallAct _ = ⊥

abbrev pub IsAllocateAct : Act → Type 0
IsAllocateAct (Allocate number base bytes charged) = Unit {0}
IsAllocateAct _ = ⊥

abbrev pub IsFreeAct : Act → Type 0
IsFreeAct (Free number base bytes charged) = Unit {0}
IsFreeAct _ = ⊥

-- a deed of such an act is told
abbrev pub TellsSuch : (Act → Type 0) → Option Deed → Type 0
TellsSuch P None = ⊥
TellsSuch P (Some d) = P d.act

-- by this thread
abbrev pub TellsSuchBy : ℕ → (Act → Type 0) → Option Deed → Type 0
TellsSuchBy t P None = ⊥
TellsSuchBy t P (Some d) = (d.thread ≡ t) × P d.act

-- ---- live objects

-- the live ones, in their order, whether painted or not
abbrev pub live_ones : List Object → List Object
live_ones [] = []
live_ones (r ∷ rs) = cond r.live (r ∷ live_ones rs) (live_ones rs)

-- ---- whole

-- Devices change by a load or store that is told, or an input; the frames of a thread grow by a
-- call of its own that is told; the next number grows by an allocation that is told, and live
-- objects, with their charges, change by that or by a free. A thread that runs on with interrupts
-- off held them off before by the same source, where no span is told.
pub record TellsAll (b : Platform) (s : State) (e : Event) : Type 0 where
  pub devices : ((happens b s e).0.devices ≡ s.devices)
      ⊎ ((n : ℕ) × (byte : ℕ) × (e ≡ Input n byte)) ⊎ TellsSuch IsDeviceAct (happens b s e).1.deed
  pub frames : (u : ℕ)
      → (length (thread (happens b s e).0 u).frames ≤ length (thread s u).frames)
      ⊎ TellsSuchBy u IsCallAct (happens b s e).1.deed
  pub next : ((happens b s e).0.next ≡ s.next) ⊎ TellsSuch IsAllocateAct (happens b s e).1.deed
  pub live : (live_ones (happens b s e).0.objects ≡ live_ones s.objects)
      ⊎ TellsSuch IsAllocateAct (happens b s e).1.deed ⊎ TellsSuch IsFreeAct (happens b s e).1.deed
  pub charged : ((q : ℕ) → charges q (happens b s e).0.objects ≡ charges q s.objects)
      ⊎ TellsSuch IsAllocateAct (happens b s e).1.deed ⊎ TellsSuch IsFreeAct (happens b s e).1.deed
  pub spans : (happens b s e).1.off ≡ None → (t : ℕ) → (happens b s e).0.running ≡ Some t
      → (thread (happens b s e).0 t).posture.off ≡ true
      → (s.running ≡ Some t) × ((thread s t).posture ≡ (thread (happens b s e).0 t).posture)

-- So where no deed is told, and the event is no input, all of these are as before.
pub record AsBefore (b : Platform) (s : State) (e : Event) : Type 0 where
  pub devices : ((happens b s e).0.devices ≡ s.devices)
      ⊎ ((n : ℕ) × (byte : ℕ) × (e ≡ Input n byte))
  pub frames : (u : ℕ)
      → length (thread (happens b s e).0 u).frames ≤ length (thread s u).frames
  pub next : (happens b s e).0.next ≡ s.next
  pub live : live_ones (happens b s e).0.objects ≡ live_ones s.objects
  pub charged : (q : ℕ) → charges q (happens b s e).0.objects ≡ charges q s.objects

abbrev pub SilenceKeeps : Platform → State → Event → Type 0
SilenceKeeps b s e = (happens b s e).1.deed ≡ None → AsBefore b s e
