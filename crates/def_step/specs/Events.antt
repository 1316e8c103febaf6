-- *Run*: what an event does, and what a list of events does.
use Rattle.std.specs.Prelude.{ℕ, ◌+◌, ◌-◌, ◌==◌, ◌≡◌, ◌&&◌, ◌||◌, Bool, true, false, not, nat_lt, List, [], ◌∷◌, length, map, Option, Some, None, slice_set, if◌then◌else◌}
use Rattle.def_profile.specs.declared.limits.TheConstants.{MOST_STEPS}
use Rattle.ct_entry.specs.declared.acts.Act.{Act}
use Rattle.ct_entry.specs.declared.acts.Act.TheVariants.{Call, Load, Store, Allocate, Free, Trap}
use Rattle.ct_entry.specs.declared.acts.Deed.{Deed}
use Rattle.ct_entry.specs.declared.acts.Owned.{Owned}
use Rattle.ct_entry.specs.declared.acts.Happened.{Happened}
use Rattle.ct_entry.specs.declared.acts.End.{End}
use Rattle.ct_entry.specs.declared.acts.End.TheVariants.{Finished, Idle}
use Rattle.ct_entry.specs.declared.acts.Totals.{Totals}
use Rattle.def_sched.specs.Picks.{pick, moved_last}
use Rattle.def_sched.specs.Statuses.{is_ended, is_waiting}
use Rattle.def_machine.specs.State.{State, Thread, Counts, thread}
use Rattle.def_machine.specs.Threads.{picked, timed, statuses_of}
use Rattle.def_step.specs.declared.Event.{Event}
use Rattle.def_step.specs.declared.Event.TheVariants.{Step, Tick, Sweep, Input}
use Rattle.def_machine.specs.Heap.{swept}
use Rattle.def_step.specs.Devices.{device, after_input}
use Rattle.def_step.specs.Instructions.{executed, actor_of}
use Rattle.def_machine.specs.Platform.{Platform}

-- ---- counts

abbrev pub with_act : Counts → Act → Counts
with_act c (Call export) = record c { calls = c.calls + 1 }
with_act c (Load address width value) = record c { loads = c.loads + 1 }
with_act c (Store address width value) = record c { stores = c.stores + 1 }
with_act c (Allocate number base size live) = c
with_act c (Free number base size live) = record c { frees = c.frees + 1 }
with_act c (Trap cause code register) = record c { traps = c.traps + 1 }

abbrev pub with_deed : Counts → Option Deed → Counts
with_deed c None = c
with_deed c (Some d) = with_act c d.act

abbrev pub noted : State × Option Deed → State × Option Deed
noted r = (record r.0 { counts = with_deed r.0.counts r.1 }, r.1)

-- ---- Step

-- A thread that runs with interrupts on stops where a tick is pending, which is then cleared.
abbrev pub preempted_from : State → Option ℕ → State
preempted_from s None = s
preempted_from s (Some t) =
    if s.pending && not (thread s t).posture.off then record s { running = None; pending = false }
    else s

abbrev pub preempted : State → State
preempted s = preempted_from s s.running

-- Where none runs, the scheduler picks: a ready thread of greatest priority, of those the one picked least
-- recently. Its registers and pcc pass the load filter, and in the order of last picks it stands last.
abbrev pub picked_as : Platform → State → Option ℕ → State
picked_as b s None = s
picked_as b s (Some t) =
    record s {
      running = Some t;
      threads = slice_set s.threads t (picked b.image s (thread s t));
      picks = moved_last t s.picks;
    }

abbrev pub picked_from : Platform → State → Option ℕ → State
picked_from b s (Some t) = s
picked_from b s None = picked_as b s (pick b.image.priorities (statuses_of s.threads) s.picks)

abbrev pub scheduled : Platform → State → State
scheduled b s = picked_from b s s.running

-- the running thread carries on; without one, nothing else happens
abbrev pub continued : Platform → State → Option ℕ → State × Option Deed
continued b s None = (s, None)
continued b s (Some t) = noted (executed b s t)

abbrev pub run_on : Platform → State → State × Option Deed
run_on b s = continued b s s.running

abbrev pub one_more_step : State → State
one_more_step s = record s { counts = record s.counts { steps = s.counts.steps + 1 } }

abbrev pub stepped : Platform → State → State × Option Deed
stepped b s = run_on b (scheduled b (preempted (one_more_step s)))

-- ---- Tick

-- No thread runs on with interrupts on; where the running one holds them off, the tick is pending. A thread whose
-- sleep ends is ready.
abbrev pub interrupted : State → Option ℕ → State
interrupted s None = s
interrupted s (Some t) =
    if (thread s t).posture.off then record s { pending = true } else record s { running = None }

abbrev pub ticked : State → State
ticked s =
    interrupted
    (record s {
      threads = map timed s.threads;
      time = s.time + 1;
      counts = record s.counts { ticks = s.counts.ticks + 1 };
    })
    s.running

-- ---- Sweep

abbrev pub swept_on : Platform → State → State
swept_on b s =
    swept b.image (record s { counts = record s.counts { sweeps = s.counts.sweeps + 1 } })

-- ---- Input

abbrev pub received : State → ℕ → ℕ → State
received s n byte = record s {
  devices = slice_set s.devices n (after_input (device s.devices n) byte);
  counts = record s.counts { inputs = s.counts.inputs + 1 };
}

-- ---- an event

-- the running thread where it holds interrupts off, and the source by which it does
abbrev pub holder_by : State → Option ℕ → Option (ℕ × ℕ)
holder_by s None = None
holder_by s (Some t) =
    if (thread s t).posture.off then Some (t, (thread s t).posture.source) else None

abbrev pub holder : State → Option (ℕ × ℕ)
holder s = holder_by s s.running

abbrev pub is_holder : Option (ℕ × ℕ) → ℕ → ℕ → Bool
is_holder None t source = false
is_holder (Some h) t source = (h.0 == t) && (h.1 == source)

-- A span with interrupts off begins where after the event the running thread holds them off, and before it
-- another thread ran, or none, or they were on, or the source was another.
abbrev pub begun_since : Option (ℕ × ℕ) → State → Option (ℕ × ℕ) → Option Owned
begun_since before after None = None
begun_since before after (Some h) =
    if is_holder before h.0 h.1 then None
    else Some (record { thread = h.0; actor = actor_of (thread after h.0).frames; export = h.1 })

abbrev pub begun : State → State → Option Owned
begun before after = begun_since (holder before) after (holder after)

abbrev pub told_of : State → State × Option Deed → State × Happened
told_of before r = (r.0, record { deed = r.1; off = begun before r.0 })

abbrev pub happens : Platform → State → Event → State × Happened
happens b s Step = told_of s (stepped b s)
happens b s Tick = told_of s (ticked s, None)
happens b s Sweep = told_of s (swept_on b s, None)
happens b s (Input n byte) = told_of s (received s n byte, None)

-- ---- runs

unfoldable pub run : Platform → State → List Event → State
run b s [] = s
run b s (e ∷ es) = run b (happens b s e).0 es

unfoldable pub happenings_of : Platform → State → List Event → List Happened
happenings_of b s [] = []
happenings_of b s (e ∷ es) = (happens b s e).1 ∷ happenings_of b (happens b s e).0 es

-- whether an event may come now
abbrev pub is_lawful : State → Event → Bool
is_lawful s Step = nat_lt s.counts.steps MOST_STEPS
is_lawful s Tick = nat_lt s.counts.ticks MOST_STEPS
is_lawful s Sweep = nat_lt s.counts.sweeps MOST_STEPS
is_lawful s (Input n byte) = nat_lt s.counts.inputs MOST_STEPS && nat_lt n (length s.devices)

-- each event of the list may come when it comes
unfoldable pub AreLawful : Platform → State → List Event → Type 0
AreLawful b s [] = Unit {0}
AreLawful b s (e ∷ es) = (is_lawful s e ≡ true) × AreLawful b (happens b s e).0 es

-- ---- the end of a run

abbrev pub all_ended : List Thread → Bool
all_ended [] = true
all_ended (t ∷ ts) = is_ended t.status && all_ended ts

abbrev pub one_waits : List Thread → Bool
one_waits [] = false
one_waits (t ∷ ts) = is_waiting t.status || one_waits ts

-- none is ready or sleeping
abbrev pub none_goes_on : List Thread → Bool
none_goes_on [] = true
none_goes_on (t ∷ ts) = (is_ended t.status || is_waiting t.status) && none_goes_on ts

-- Finished where every thread has ended; Idle where one waits and none is ready or sleeping
abbrev pub end_of : State → Option End
end_of s =
    if all_ended s.threads then Some Finished
    else if one_waits s.threads && none_goes_on s.threads then Some Idle else None

-- the totals of a run that ended so; an allocation's number counts from 1
abbrev pub totals_of : State → End → Totals
totals_of s e = record {
  end = e;
  steps = s.counts.steps;
  ticks = s.counts.ticks;
  calls = s.counts.calls;
  devices = s.counts.loads + s.counts.stores;
  allocations = s.next - 1;
  frees = s.counts.frees;
  traps = s.counts.traps;
}
