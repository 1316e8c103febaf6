-- Changes of one thread that leave its frames and RAM as they are, and turns of threads.
use Rattle.std.specs.Prelude.{ℕ, Bool, List, [], ◌∷◌, Option, map, slice_set}
use Rattle.def_words.specs.declared.Cap.{Cap}
use Rattle.def_words.specs.declared.Posture.{Posture}
use Rattle.def_words.specs.Seals.{cap_seal, posture_through}
use Rattle.def_words.specs.Jumped.{opened}
use Rattle.def_machine.specs.Image.{Image}
use Rattle.def_machine.specs.State.{State, Thread, DeviceState, Counts}
use Rattle.def_sched.specs.declared.Status.{Status}
use Rattle.def_sched.specs.Statuses.{after_tick}
use Rattle.def_machine.specs.Memory.{filtered}
use Rattle.def_machine.specs.Registers.{written}

-- what a turn may change beside a thread
pub record Clockwork : Type 0 where
  pub pending : Bool
  pub devices : List DeviceState
  pub time : ℕ
  pub picks : List ℕ
  pub counts : Counts

-- a thread changes, another may run or none, and the clockwork goes on
abbrev pub changed : State → ℕ → Thread → Option ℕ → Clockwork → State
changed s t new run w = record s {
  threads = slice_set s.threads t new;
  running = run;
  pending = w.pending;
  devices = w.devices;
  time = w.time;
  picks = w.picks;
  counts = w.counts;
}

abbrev pub with_status : Thread → Status → Thread
with_status t status = record t { status = status }

-- each register and the program counter capability passes the load filter when a thread is picked
abbrev pub picked_with : (Cap → Cap) → Thread → Thread
picked_with keep t = record t { pcc = keep t.pcc; registers = map keep t.registers }

abbrev pub picked : Image → State → Thread → Thread
picked i s t = picked_with (filtered i s) t

-- ---- statuses

abbrev pub statuses_of : List Thread → List Status
statuses_of ts = map (λ (t : Thread). t.status) ts

-- the threads with these statuses
abbrev pub with_statuses : List Thread → List Status → List Thread
with_statuses [] ss = []
with_statuses (t ∷ ts) [] = t ∷ ts
with_statuses (t ∷ ts) (s ∷ ss) = with_status t s ∷ with_statuses ts ss

-- a tick, of each thread
abbrev pub timed : Thread → Thread
timed t = with_status t (after_tick t.status)

-- a jump: the program counter capability, the posture, and the link in register `to`
abbrev pub jumped : Thread → Cap → Posture → ℕ → Cap → Thread
jumped t pcc posture to link =
    record t { pcc = pcc; registers = written t.registers to link; posture = posture }

-- a jump without a link, to what a return sentry seals
abbrev pub resumed : Thread → Cap → Thread
resumed t sentry =
    record t {
      pcc = opened sentry;
      posture = posture_through t.posture (cap_seal sentry) 0 sentry.shadow.source;
    }

-- the program counter capability moves on
abbrev pub advanced : Thread → Cap → Thread
advanced t pcc = record t { pcc = pcc }
