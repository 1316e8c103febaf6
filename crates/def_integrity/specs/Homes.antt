-- What users ask of *Integrity*: who may change code, a compartment's globals, a thread's stack and frames, a live
-- object of the heap and a device; of one event, and of lists of events.
use Rattle.std.specs.Prelude.{ℕ, ◌≡◌, ◌+◌, ◌≤◌, ◌<◌, ◌⊎◌, true, List, Some}
use Rattle.ct_entry.specs.declared.rows.Owner.TheVariants.{Compartment}
use Rattle.def_words.specs.declared.Cap.{Cap}
use Rattle.def_words.specs.Permissions.{bit, store_data}
use Rattle.def_reach.specs.Sharing.{Reaches}
use Rattle.def_machine.specs.Image.{Image, Region, Fixed, Globals, Shared, Stack, Bare, root, region, granule_of, address_of}
use Rattle.def_machine.specs.Objects.{Any}
use Rattle.def_machine.specs.Platform.{Platform}
use Rattle.def_machine.specs.State.{State, Thread, Object, thread, register, granule}
use Rattle.def_confined.specs.Partitioned.{StoresInto}
use Rattle.def_confined.specs.Places.{WithinRun}
use Rattle.def_step.specs.declared.Event.{Event}
use Rattle.def_step.specs.declared.Event.TheVariants.{Step}
use Rattle.def_step.specs.Devices.{device}
use Rattle.def_step.specs.Events.{happens, run}
use Rattle.def_safety.specs.Each.{ready, EachEvent}
use Rattle.def_integrity.specs.Acting.{Acting}
use Rattle.def_integrity.specs.Devices.{ActsOnDevice, DevicesHeld}
use Rattle.def_integrity.specs.Threads.{FramesFaded, OwnFrames}
use Rattle.def_integrity.specs.Touched.{IsSwept, IsStored, IsCleared, IsRecorded, IsFreed}

-- ---- what an event's step does to a granule

abbrev pub StoresTo : Platform → State → Event → ℕ → Type 0
StoresTo b s e k = IsStored b (ready b s) k (granule (happens b s e).0 k)

abbrev pub Clears : Platform → State → Event → ℕ → Type 0
Clears b s e k =
    IsCleared b (ready b s) (happens b s e).1.deed (happens b s e).0 k
    (granule (happens b s e).0 k)

abbrev pub Records : Platform → State → Event → ℕ → Type 0
Records b s e k = IsRecorded b (ready b s) (happens b s e).1.deed k (granule (happens b s e).0 k)

abbrev pub Frees : Platform → State → Event → ℕ → Type 0
Frees b s e k = IsFreed b (ready b s) (happens b s e).1.deed k (granule (happens b s e).0 k)

-- a granule after an event is as a sweep leaves it, with the word that it held: so it is too where nothing changed
abbrev pub KeepsWord : Platform → State → Event → ℕ → Type 0
KeepsWord b s e k = IsSwept b s (happens b s e).0 k

-- ---- code

-- code, export tables and the return sentry are as they were
abbrev pub CodeStays : Platform → State → State → Type 0
CodeStays b s after =
    (k : ℕ) → region b.image k ≡ Fixed → (granule after k).cap ≡ (granule s k).cap

-- ---- globals

-- a step whose actor compartment o reaches: itself, or one that it shares capabilities with
pub record ActsFor (b : Platform) (s : State) (e : Event) (o : ℕ) : Type 0 where
  pub step : e ≡ Step
  pub by : Acting (ready b s)
  pub reached : Reaches b.image.entries (Compartment o) by.frame.actor

-- a granule of a compartment's globals holds the word that it held, or such a step stored to it
abbrev pub GlobalsKept : Platform → State → Event → Type 0
GlobalsKept b s e =
    (k o : ℕ) → region b.image k ≡ Globals o
    → KeepsWord b s e k ⊎ (ActsFor b s e o × StoresTo b s e k)

-- a compartment that reaches no other
abbrev pub Alone : Image → ℕ → Type 0
Alone i o = (d : ℕ) → Reaches i.entries (Compartment o) d → d ≡ o

-- a step whose actor is compartment o
pub record ActsAs (b : Platform) (s : State) (e : Event) (o : ℕ) : Type 0 where
  pub step : e ≡ Step
  pub by : Acting (ready b s)
  pub itself : by.frame.actor ≡ o

-- such a compartment alone stores to its globals
abbrev pub OwnGlobals : Platform → State → Event → Type 0
OwnGlobals b s e =
    (k o : ℕ) → region b.image k ≡ Globals o → Alone b.image o
    → KeepsWord b s e k ⊎ (ActsAs b s e o × StoresTo b s e k)

-- ---- stacks

-- thread t carries on by a step
abbrev pub CarriesOn : Platform → State → Event → ℕ → Type 0
CarriesOn b s e t = (e ≡ Step) × ((ready b s).running ≡ Some t)

-- Thread t carries on, and granule k lies below the top of the run of its innermost frame: so in what of its stack
-- belongs to its actor, or to callers that are joined to that one after another. What is further up is of callers
-- that aren't.
abbrev pub RunsOver : Platform → State → Event → ℕ → ℕ → Type 0
RunsOver b s e t k =
    CarriesOn b s e t
    × WithinRun b.image (thread (ready b s) t).frames (address_of b.image k + 1)

-- A granule of a thread's stack holds the word that it held; or that thread carried on, no further than its run goes,
-- and stored to it, or the switcher cleared it, or a trap's record is there.
abbrev pub StacksKept : Platform → State → Event → Type 0
StacksKept b s e =
    (k t : ℕ) → region b.image k ≡ Stack t
    → KeepsWord b s e k
    ⊎ (RunsOver b s e t k × (StoresTo b s e k ⊎ Clears b s e k ⊎ Records b s e k))

-- ---- shared and sealed objects

-- a step whose actor the owner of an entry reaches, through which bytes of granule k may be stored, and which is of
-- its region
pub record ActsThrough (b : Platform) (s : State) (e : Event) (k : ℕ) : Type 0 where
  pub step : e ≡ Step
  pub by : Acting (ready b s)
  pub entry : ℕ
  pub at : ℕ
  pub here : granule_of b.image at ≡ k
  pub low : (root b.image entry).base ≤ at
  pub high : at < (root b.image entry).top
  pub right : bit (root b.image entry).rights store_data ≡ true
  pub into : StoresInto b.image entry (region b.image k)
  pub reached : Reaches b.image.entries (root b.image entry).owner by.frame.actor

-- shared and sealed objects, and what nobody has: what isn't code's, a compartment's globals, a stack or the heap
abbrev pub IsObjectIn : Region → Type 0
IsObjectIn (Shared object) = Unit {0}
IsObjectIn Bare = Unit {0}
IsObjectIn _ = ⊥

-- such a granule holds the word that it held, or such a step stored to it: through an import of that object
abbrev pub ImportsKept : Platform → State → Event → Type 0
ImportsKept b s e =
    (k : ℕ) → IsObjectIn (region b.image k)
    → KeepsWord b s e k ⊎ (ActsThrough b s e k × StoresTo b s e k)

-- ---- objects of the heap

-- a step whose actor the owner of a quota reaches
pub record ActsOn (b : Platform) (s : State) (e : Event) (quota : ℕ) : Type 0 where
  pub step : e ≡ Step
  pub by : Acting (ready b s)
  pub reached : Reaches b.image.entries (root b.image quota).owner by.frame.actor

-- a live object that has granule k
pub record LiveOver (b : Platform) (s : State) (k : ℕ) (r : Object) : Type 0 where
  pub there : Any (λ q. q ≡ r) s.objects
  pub live : r.live ≡ true
  pub low : r.base ≤ address_of b.image k
  pub high : address_of b.image k < r.base + r.length

-- a granule of a live object holds the word that it held, or a step of such an actor stored to it or freed the object
abbrev pub ObjectsKept : Platform → State → Event → Type 0
ObjectsKept b s e =
    (k : ℕ) (r : Object) → LiveOver b s k r
    → KeepsWord b s e k ⊎ (ActsOn b s e r.quota × (StoresTo b s e k ⊎ Frees b s e k))

-- ---- of one event

-- whatever changes, those alone change it who may
pub record HomesKept (b : Platform) (s : State) (e : Event) : Type 0 where
  pub globals : GlobalsKept b s e
  pub own : OwnGlobals b s e
  pub stacks : StacksKept b s e
  pub imports : ImportsKept b s e
  pub objects : ObjectsKept b s e
  pub devices : DevicesHeld b s e
  pub frames : OwnFrames b s e

-- ---- of a list of events

-- none of the events is such a one
abbrev pub NoEvent : (State → Event → Type 0) → Platform → State → List Event → Type 0
NoEvent P b s es = EachEvent (λ z e. P z e → ⊥) b s es

abbrev pub SameWord : Platform → State → List Event → ℕ → Type 0
SameWord b s es k = (granule (run b s es) k).cap.word ≡ (granule s k).cap.word

-- a compartment's globals keep their words while no actor acts that it reaches
abbrev pub GlobalsStay : Platform → State → List Event → Type 0
GlobalsStay b s es =
    (k o : ℕ) → region b.image k ≡ Globals o → NoEvent (λ z e. ActsFor b z e o) b s es
    → SameWord b s es k

-- a shared or sealed object keeps its words while no actor acts that the owner of an import of it reaches
abbrev pub ImportsStay : Platform → State → List Event → Type 0
ImportsStay b s es =
    (k : ℕ) → IsObjectIn (region b.image k) → NoEvent (λ z e. ActsThrough b z e k) b s es
    → SameWord b s es k

-- a thread's stack keeps its words while that thread doesn't carry on, or no run of its frames goes so far
abbrev pub StacksStay : Platform → State → List Event → Type 0
StacksStay b s es =
    (k t : ℕ) → region b.image k ≡ Stack t → NoEvent (λ z e. RunsOver b z e t k) b s es
    → SameWord b s es k

-- a live object keeps its words, and stays live, while no actor acts that its quota's owner reaches
abbrev pub ObjectsStay : Platform → State → List Event → Type 0
ObjectsStay b s es =
    (k : ℕ) (r : Object) → LiveOver b s k r → NoEvent (λ z e. ActsOn b z e r.quota) b s es
    → SameWord b s es k × LiveOver b (run b s es) k r

-- a capability's word stays, whatever becomes of its tag
abbrev pub WordStays : Cap → Cap → Type 0
WordStays c d = d.word ≡ c.word

-- the words of a thread's registers, of its program counter and of all that its frames saved, those frames
-- themselves, and its posture
pub record SameThread (old new : Thread) : Type 0 where
  pub pcc : WordStays old.pcc new.pcc
  pub registers : (n : ℕ) → WordStays (register old n) (register new n)
  pub frames : FramesFaded WordStays old.frames new.frames
  pub posture : new.posture ≡ old.posture

-- a thread stays so while it doesn't carry on
abbrev pub ThreadsStay : Platform → State → List Event → Type 0
ThreadsStay b s es =
    (t : ℕ) → NoEvent (λ z e. CarriesOn b z e t) b s es
    → SameThread (thread s t) (thread (run b s es) t)

-- a device stays as it is while nobody acts who holds it, and no byte comes to it
abbrev pub DevicesStay : Platform → State → List Event → Type 0
DevicesStay b s es =
    (n : ℕ) → NoEvent (λ z e. ActsOnDevice b z e n) b s es
    → device (run b s es).devices n ≡ device s.devices n

pub record HomesStay (b : Platform) (s : State) (es : List Event) : Type 0 where
  pub code : CodeStays b s (run b s es)
  pub globals : GlobalsStay b s es
  pub stacks : StacksStay b s es
  pub threads : ThreadsStay b s es
  pub imports : ImportsStay b s es
  pub objects : ObjectsStay b s es
  pub devices : DevicesStay b s es
