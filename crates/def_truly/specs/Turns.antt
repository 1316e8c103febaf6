-- Whose turn it is, in plain facts: which thread carries on in a step, and what a tick stops.
use Rattle.std.specs.Prelude.{ℕ, ◌≡◌, ◌+◌, ◌-◌, ◌≤◌, ◌<◌, ◌⊎◌, ◌↔◌, true, false, Contains, Some, None}
use Rattle.def_sched.specs.declared.Status.{Status}
use Rattle.def_sched.specs.declared.Status.TheVariants.{Sleeping}
use Rattle.def_sched.specs.Picks.{moved_last, priority_of}
use Rattle.def_machine.specs.Image.{Image}
use Rattle.def_machine.specs.Platform.{Platform}
use Rattle.def_machine.specs.State.{State, Thread, Ready, thread}
use Rattle.def_machine.specs.Threads.{picked}
use Rattle.def_step.specs.declared.Event.TheVariants.{Input, Sweep, Tick}
use Rattle.def_step.specs.Events.{happens}
use Rattle.def_safety.specs.Each.{ready}

-- ---- who goes on

-- thread t runs with interrupts on, and a tick is pending
pub record IsStopped (s : State) (t : ℕ) : Type 0 where
  pub runs : s.running ≡ Some t
  pub pending : s.pending ≡ true
  pub on : (thread s t).posture.off ≡ false

-- thread t runs, and no tick is pending, or it holds interrupts off
pub record GoesOn (s : State) (t : ℕ) : Type 0 where
  pub runs : s.running ≡ Some t
  pub undisturbed : (s.pending ≡ false) ⊎ ((thread s t).posture.off ≡ true)

abbrev pub NoneGoesOn : State → Type 0
NoneGoesOn s = (t : ℕ) → GoesOn s t → ⊥

-- ---- who is picked

abbrev pub IsReady : State → ℕ → Type 0
IsReady s t = (thread s t).status ≡ Ready

-- Thread t is the scheduler's choice. It is ready, no ready thread has a greater priority, and each ready one that
-- was picked longer ago, so that it stands before t in the order of last picks, has a lower one.
pub record IsNext (i : Image) (s : State) (t : ℕ) : Type 0 where
  pub stands : Contains s.picks t
  pub is_ready : IsReady s t
  pub greatest : (u : ℕ) → Contains s.picks u → IsReady s u
      → priority_of i.priorities u ≤ priority_of i.priorities t
  pub first : (u : ℕ) (other : Contains s.picks u) → other.0 < stands.0 → IsReady s u
      → priority_of i.priorities u < priority_of i.priorities t

abbrev pub NoneIsReady : State → Type 0
NoneIsReady s = (u : ℕ) → Contains s.picks u → IsReady s u → ⊥

-- none goes on, and thread t is the scheduler's choice
abbrev pub IsPicked : Image → State → ℕ → Type 0
IsPicked i s t = NoneGoesOn s × IsNext i s t

-- ---- a step

-- No more changes than who runs, and counts: memory, the heap's rows, the sweep, devices and time are as they were.
pub record SameBeside (s after : State) : Type 0 where
  pub granules : after.granules ≡ s.granules
  pub objects : after.objects ≡ s.objects
  pub next : after.next ≡ s.next
  pub tokens : after.tokens ≡ s.tokens
  pub front : after.front ≡ s.front
  pub devices : after.devices ≡ s.devices

-- How a step begins. The thread that ran goes on, unless a tick is pending and it runs with interrupts on; else the
-- scheduler's choice runs, and where none is ready none does. A pending tick stays pending unless it stops a thread.
-- A thread that is picked passes the load filter, and stands last in the order then; all else is as it was.
pub record TurnTaken (b : Platform) (s after : State) : Type 0 where
  pub runs : (t : ℕ) → (after.running ≡ Some t) ↔ (GoesOn s t ⊎ IsPicked b.image s t)
  pub idle : (after.running ≡ None) ↔ (NoneGoesOn s × NoneIsReady s)
  pub pending : (after.pending ≡ true)
      ↔ ((s.pending ≡ true) × ((t : ℕ) → IsStopped s t → ⊥))
  pub others : (u : ℕ) → (IsPicked b.image s u → ⊥) → thread after u ≡ thread s u
  pub filters : (t : ℕ) → IsPicked b.image s t
      → thread after t ≡ picked b.image s (thread s t)
  pub last : (t : ℕ) → IsPicked b.image s t → after.picks ≡ moved_last t s.picks
  pub order : ((t : ℕ) → IsPicked b.image s t → ⊥) → after.picks ≡ s.picks
  pub time : after.time ≡ s.time
  pub rest : SameBeside s after

abbrev pub TakesTurn : Platform → State → Type 0
TakesTurn b s = TurnTaken b s (ready b s)

-- ---- a tick

-- thread t runs, and holds interrupts off
pub record HoldsOff (s : State) (t : ℕ) : Type 0 where
  pub runs : s.running ≡ Some t
  pub off : (thread s t).posture.off ≡ true

-- a sleep is one tick shorter, and over after its last; another status stays
pub record OneTickLess (old new : Status) : Type 0 where
  pub shorter : (n : ℕ) → old ≡ Sleeping n → 1 < n → new ≡ Sleeping (n - 1)
  pub over : (n : ℕ) → old ≡ Sleeping n → n ≤ 1 → new ≡ Ready
  pub stays : ((n : ℕ) → old ≡ Sleeping n → ⊥) → new ≡ old

-- of a thread, of which all else stays
pub record ThreadTicked (old new : Thread) : Type 0 where
  pub status : OneTickLess old.status new.status
  pub pcc : new.pcc ≡ old.pcc
  pub registers : new.registers ≡ old.registers
  pub frames : new.frames ≡ old.frames
  pub posture : new.posture ≡ old.posture

-- What a tick leaves. A thread that runs goes on only where it holds interrupts off, and then the tick is pending.
-- Each thread's sleep is one tick shorter; all else but the counts is as it was.
pub record TickTaken (s after : State) : Type 0 where
  pub runs : (t : ℕ) → (after.running ≡ Some t) ↔ HoldsOff s t
  pub pending : (after.pending ≡ true) ↔ ((s.pending ≡ true) ⊎ ((t : ℕ) × HoldsOff s t))
  pub threads : (u : ℕ) → ThreadTicked (thread s u) (thread after u)
  pub picks : after.picks ≡ s.picks
  pub time : after.time ≡ s.time + 1
  pub rest : SameBeside s after

abbrev pub TicksStop : Platform → State → Type 0
TicksStop b s = TickTaken s (happens b s Tick).0

-- ---- a sweep and an input

-- the turn stays
pub record SameTurn (s after : State) : Type 0 where
  pub running : after.running ≡ s.running
  pub pending : after.pending ≡ s.pending
  pub picks : after.picks ≡ s.picks
  pub time : after.time ≡ s.time

pub record TurnsStay (b : Platform) (s : State) : Type 0 where
  pub sweeps : SameTurn s (happens b s Sweep).0
  pub inputs : (n byte : ℕ) → SameTurn s (happens b s (Input n byte)).0
