-- When two states of one machine agree on what a thread sees.
use Rattle.std.specs.Prelude.{ℕ, ◌≡◌, ◌+◌, ◌-◌, ◌≤◌, ◌<◌, Bool, List, length, map}
use Rattle.def_memory.specs.declared.Granule.{Granule}
use Rattle.def_memory.specs.Granules.{cap_in}
use Rattle.def_memory.specs.Accesses.{byte_at}
use Rattle.def_machine.specs.Image.{Image, address_of}
use Rattle.def_machine.specs.Platform.{Platform}
use Rattle.def_machine.specs.State.{State, Thread, Frame, thread}
use Rattle.def_machine.specs.Threads.{statuses_of}
use Rattle.def_step.specs.Devices.{device}
use Rattle.def_step.specs.Events.{holder}
use Rattle.def_secrecy.specs.View.{InView, SeesDevice}

-- ---- memory

-- Two memories, of which these addresses are seen. Of a granule that is seen in part no tag is seen: a store into it
-- takes the tag of what its other bytes are part of, in both memories.
pub record SameMemory (i : Image) (sees : ℕ → Type 0) (gs hs : List Granule) : Type 0 where
  pub size : length gs ≡ length hs
  -- a byte that is seen is the same
  pub bytes : (x : ℕ) → i.ram ≤ x → sees x → byte_at gs (x - i.ram) ≡ byte_at hs (x - i.ram)
  -- of a granule that is seen whole its capability is, with tag and shadow
  pub whole : (k : ℕ) → ((n : ℕ) → n < 8 → sees (address_of i k + n)) → cap_in gs k ≡ cap_in hs k

-- ---- the thread itself

-- what a thread knows of a frame: whose it is, by which export, how far its stack goes, and whether it handles a trap;
-- what the frame saved is its caller's
pub record Shape : Type 0 where
  pub actor : ℕ
  pub export : ℕ
  pub top : ℕ
  pub handling : Bool

abbrev pub frame_shape : Frame → Shape
frame_shape f = record { actor = f.actor; export = f.export; top = f.top; handling = f.handling }

abbrev pub shapes : Thread → List Shape
shapes x = map frame_shape x.frames

pub record AgreeingThread (x y : Thread) : Type 0 where
  pub pcc : x.pcc ≡ y.pcc
  pub registers : x.registers ≡ y.registers
  pub posture : x.posture ≡ y.posture
  pub frames : shapes x ≡ shapes y

-- ---- what everybody may know

-- Public by design. The scheduler tells it by when a thread runs, the allocator by where it places an object and by
-- which numbers it gives. Marks aren't listed, since a confined state's rows tell them.
pub record SamePublic (s z : State) : Type 0 where
  -- who runs, whether it holds interrupts off and by which export, and whether a tick waits for them
  pub running : s.running ≡ z.running
  pub holder : holder s ≡ holder z
  pub pending : s.pending ≡ z.pending
  -- a timer's time
  pub time : s.time ≡ z.time
  -- which threads are ready, asleep, waiting (for which address) or ended, and in which order they were picked
  pub statuses : statuses_of s.threads ≡ statuses_of z.threads
  pub picks : s.picks ≡ z.picks
  -- where each object of the heap is, whose it is, whether it is quarantined; which are keys and tokens
  pub objects : s.objects ≡ z.objects
  pub next : s.next ≡ z.next
  pub tokens : s.tokens ≡ z.tokens
  -- how far the sweep has come
  pub front : s.front ≡ z.front

-- ---- whole

-- Thread t sees the same of both states.
pub record Agree (b : Platform) (t : ℕ) (s z : State) : Type 0 where
  pub public : SamePublic s z
  pub self : AgreeingThread (thread s t) (thread z t)
  pub memory : SameMemory b.image (InView b.image s t) s.granules z.granules
  pub devices : (m : ℕ) → SeesDevice b (thread s t).frames m
      → device s.devices m ≡ device z.devices m
  -- there are as many devices, which no event changes
  pub banks : length s.devices ≡ length z.devices
