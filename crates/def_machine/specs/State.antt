-- *State*: everything that an event may change.
use Rattle.std.specs.Prelude.{ℕ, Bool, false, List, [], Option, None, slice_index_or}
use Rattle.ct_entry.specs.declared.hardware.DeviceKind.{DeviceKind}
use Rattle.ct_entry.specs.declared.hardware.DeviceKind.TheVariants.{Uart, Timer, Gpio}
use Rattle.def_words.specs.declared.Cap.{Cap}
use Rattle.def_words.specs.declared.Posture.{Posture}
pub use Rattle.def_sched.specs.declared.Status.{Status}
pub use Rattle.def_sched.specs.declared.Status.TheVariants.{Ready, Sleeping, Waiting, Ended}
use Rattle.def_memory.specs.declared.Granule.{Granule}
use Rattle.def_memory.specs.Granules.{plain, granule_at}
use Rattle.def_sched.specs.declared.Status.{Status}
use Rattle.def_sched.specs.declared.Status.TheVariants.{Ended}

-- A frame: its compartment, its export's entry number, its top, whether its error handler was entered, and the caller's
-- saved registers. Of a thread's outermost frame, which has no caller, the saved registers are plain.
pub record Frame : Type 0 where
  pub actor : ℕ
  pub export : ℕ
  pub top : ℕ
  pub handling : Bool
  pub c1 : Cap
  pub c2 : Cap
  pub c3 : Cap
  pub c8 : Cap
  pub c9 : Cap

-- frames stand innermost first; an ended thread has none
pub record Thread : Type 0 where
  pub pcc : Cap
  pub registers : List Cap
  pub frames : List Frame
  pub status : Status
  pub posture : Posture

-- An object of the heap: its allocation number, its quota's entry number, where it begins and how long it
-- is, what it takes from the quota, and whether it is live; a freed one is quarantined until a sweep ends that
-- began after its free: those that the running sweep will let go are painted.
pub record Object : Type 0 where
  pub number : ℕ
  pub quota : ℕ
  pub base : ℕ
  pub length : ℕ
  pub charge : ℕ
  pub live : Bool
  pub painted : Bool

-- the queue of a serial port, oldest first; a timer reads the time; a gpio's output and its last input
pub data DeviceState : Type 0 where
  Serial : List ℕ → DeviceState
  Clock : DeviceState
  Pins : ℕ → ℕ → DeviceState

-- a device as it boots
abbrev pub fresh_device : DeviceKind → DeviceState
fresh_device Uart = Serial []
fresh_device Timer = Clock
fresh_device Gpio = Pins 0 0

-- events and deeds so far, but allocations
pub record Counts : Type 0 where
  pub steps : ℕ
  pub ticks : ℕ
  pub sweeps : ℕ
  pub inputs : ℕ
  pub calls : ℕ
  pub loads : ℕ
  pub stores : ℕ
  pub frees : ℕ
  pub traps : ℕ

-- an object that is a key, or a token of the key with this object's number
pub record Token : Type 0 where
  pub number : ℕ
  pub key : Option ℕ

-- `objects` stand by their bases, `tokens` by their numbers; `next` is the number of the next allocation, one more than
-- there were; `picks` are the threads in the order of their last picks, those never picked first; `front` is how far the
-- running sweep has come, an offset in RAM
pub record State : Type 0 where
  pub granules : List Granule
  pub threads : List Thread
  pub running : Option ℕ
  pub pending : Bool
  pub objects : List Object
  pub next : ℕ
  pub tokens : List Token
  pub front : Option ℕ
  pub devices : List DeviceState
  pub time : ℕ
  pub picks : List ℕ
  pub counts : Counts

-- before any event
abbrev pub no_counts : Counts
no_counts = record {
  steps = 0;
  ticks = 0;
  sweeps = 0;
  inputs = 0;
  calls = 0;
  loads = 0;
  stores = 0;
  frees = 0;
  traps = 0;
}

-- none runs, and no object was made
abbrev pub at_rest : List Granule → List Thread → List DeviceState → List ℕ → State
at_rest granules threads devices picks = record {
  granules = granules;
  threads = threads;
  running = None;
  pending = false;
  objects = [];
  next = 1;
  tokens = [];
  front = None;
  devices = devices;
  time = 0;
  picks = picks;
  counts = no_counts;
}

-- the outermost frame of a thread, which has no caller: its compartment, its export, its top
abbrev pub outermost : ℕ → ℕ → ℕ → Frame
outermost actor export top = record {
  actor = actor;
  export = export;
  top = top;
  handling = false;
  c1 = plain 0;
  c2 = plain 0;
  c3 = plain 0;
  c8 = plain 0;
  c9 = plain 0;
}

abbrev pub interrupts_on : Posture
interrupts_on = record { off = false; source = 0 }

-- an ended thread holds nothing
abbrev pub nobody : Thread
nobody = record {
  pcc = plain 0;
  registers = [];
  frames = [];
  status = Ended;
  posture = interrupts_on;
}

abbrev pub thread : State → ℕ → Thread
thread s t = slice_index_or s.threads t nobody

abbrev pub register : Thread → ℕ → Cap
register t n = slice_index_or t.registers n (plain 0)

abbrev pub granule : State → ℕ → Granule
granule s k = granule_at s.granules k
