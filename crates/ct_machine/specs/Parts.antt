-- What the machine's state is, from what the code keeps of it, and what is kept beside it.
use Rattle.std.specs.Prelude.{ℕ, ◌+◌, ◌*◌, ◌^◌, ◌≡◌, ◌≤◌, ◌<◌, Bool, true, List, length, Some}
use Rattle.def_profile.specs.declared.limits.TheConstants.{MOST_STEPS}
use Rattle.def_sched.specs.declared.Status.TheVariants.{Ready}
use Rattle.def_sched.specs.Statuses.{status_of}
use Rattle.def_machine.specs.Image.{Image, root}
use Rattle.def_machine.specs.State.{State, DeviceState, Counts}
use Rattle.def_machine.specs.Threads.{with_statuses}
use Rattle.def_reach.specs.Roots.{is_quota}
use Rattle.ct_threads.specs.Steps.{IsHeapPlaced}
use Rattle.ct_engine.specs.Seen.{EngineRow, region_of}
use Rattle.ct_engine.specs.Written.{HasHeap}
use Rattle.ct_boot.specs.Placed.{ArePlaced}
use Rattle.ct_sched.specs.Sched.{SchedRow}

-- The statuses of threads and the order of their last picks are the scheduler's.
abbrev pub state_by : EngineRow → SchedRow → Bool → List DeviceState → ℕ → Counts → State
state_by e r pending devices time counts = record e.state {
  threads = with_statuses e.state.threads r.statuses;
  pending = pending;
  devices = devices;
  time = time;
  picks = r.order;
  counts = counts;
}

-- each quota of the image is one of the heap's
abbrev pub HasQuotas : Image → EngineRow → Type 0
HasQuotas i e = (q : ℕ) → is_quota (root i q).origin ≡ true → q < length e.limits

-- What is kept beside the state: where the image has the threads' areas and stacks, RAM and the heap, what each
-- quota may take, a status and a priority for each thread, and that the running one is ready.
pub record IsKept (i : Image) (e : EngineRow) (r : SchedRow) : Type 0 where
  pub region : e.region ≡ region_of i
  pub placed : IsHeapPlaced i.ram i.heap_base (length e.state.granules)
  pub heap : HasHeap i e
  pub quotas : HasQuotas i e
  pub areas : ArePlaced i (8 * length e.state.granules) e.areas
  pub threads : length e.areas ≡ length e.state.threads
  pub priorities : r.priorities ≡ i.priorities
  pub statuses : length r.statuses ≡ length e.state.threads
  pub few : length r.statuses < 2 ^ 32
  pub ready : (t : ℕ) → e.state.running ≡ Some t → status_of r.statuses t ≡ Ready

-- ---- counts

abbrev pub deeds_of : Counts → ℕ
deeds_of c = c.calls + c.loads + c.stores + c.frees + c.traps

-- each step is one deed at most, and one allocation; time counts ticks
pub record IsCounted (c : Counts) (time next : ℕ) : Type 0 where
  pub steps : c.steps ≤ MOST_STEPS
  pub ticks : c.ticks ≤ MOST_STEPS
  pub sweeps : c.sweeps ≤ MOST_STEPS
  pub inputs : c.inputs ≤ MOST_STEPS
  pub deeds : deeds_of c ≤ c.steps
  pub clock : time ≤ c.ticks
  pub made : next ≤ c.steps + 1
