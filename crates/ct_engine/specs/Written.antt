-- A state of the machine, and what is seen of an engine that holds the same.
use Rattle.std.specs.Prelude.{ℕ, ◌≡◌, ◌<◌, List, length, Option, slice_set}
use Rattle.def_words.specs.declared.Trap.{Trap}
use Rattle.def_machine.specs.Image.{Image, root, stack_base, frames_most, area_of}
use Rattle.def_machine.specs.State.{State, Thread, Frame, Status}
use Rattle.def_machine.specs.State as state
use Rattle.def_machine.specs.Threads.{with_statuses}
use Rattle.def_machine.specs.Frames as machine
use Rattle.def_reach.specs.Roots.{compartment_of}
use Rattle.def_step.specs.Handlers.{handled, handler_entered}
use Rattle.ct_areas.specs.Threads as areas
use Rattle.ct_engine.specs.Seen.{EngineRow, thread, with_running, area_at, limit_at}

-- RAM and thread t are the state's, and the thread's stack and the room for its frames are as the image has them.
pub record Shows (i : Image) (m : State) (s : EngineRow) (t : ℕ) : Type 0 where
  pub ram : s.region.ram ≡ i.ram
  pub granules : s.state.granules ≡ m.granules
  pub thread : thread s t ≡ state.thread m t
  pub stack : (area_at s t).stack ≡ stack_base i t
  pub frames : areas.frames_most (area_at s t) ≡ frames_most i t

-- what is seen where thread t has become this, and all else is the state's
abbrev pub seen_so : EngineRow → ℕ → Thread → State → EngineRow
seen_so s t new m =
    record s {
      state = record s.state {
        granules = m.granules;
        threads = slice_set s.state.threads t new;
        running = m.running;
      };
    }

-- what is seen after the written change of a whole thread and of its stack up to an address
abbrev pub written : Image → State → EngineRow → ℕ → ℕ → Thread → Option ℕ → EngineRow
written i m s t high new run = seen_so s t new (machine.switched i m t high new run)

-- the thread in the callee, as the written call has it
abbrev pub callee_thread : Image → State → ℕ → ℕ → ℕ → Thread
callee_thread i m t export high =
    machine.entered i (state.thread m t) (compartment_of (root i export).owner) export high
    (machine.callee_start i (state.thread m t) t (compartment_of (root i export).owner) export high)

-- and after the written entry of an error handler; who runs is as it was
abbrev pub handler_seen : Image → State → EngineRow → ℕ → Trap → Frame → List Frame → EngineRow
handler_seen i m s t why f fs =
    with_running
    (seen_so s t (handled i (state.thread m t) why f fs) (handler_entered i m t why f fs))
    s.state.running

-- ---- the whole state

-- the state where this is seen, whose threads have these statuses
abbrev pub state_with : State → EngineRow → List Status → State
state_with m s statuses = record m {
  granules = s.state.granules;
  threads = with_statuses s.state.threads statuses;
  running = s.state.running;
  objects = s.state.objects;
  tokens = s.state.tokens;
  next = s.state.next;
  front = s.state.front;
}

-- RAM begins where the image has it, and so do the threads' areas, one for each thread
pub record HasAreas (i : Image) (s : EngineRow) : Type 0 where
  pub ram : s.region.ram ≡ i.ram
  pub count : length s.areas ≡ length s.state.threads
  pub begins : (t : ℕ) → t < length s.areas → (area_at s t).trusted ≡ area_of i t

-- The heap lies where the image has it, and quotas may take what their entries say. So quota 0 may take nothing: no
-- entry has that number.
pub record HasHeap (i : Image) (s : EngineRow) : Type 0 where
  pub base : i.heap_base ≡ s.heap_base
  pub end : i.heap_end ≡ s.heap_end
  pub limits : (q : ℕ) → (root i q).limit ≡ limit_at s q

-- the heap lies where the image has it, and this quota may take what its entry says
pub record HasQuota (i : Image) (s : EngineRow) (quota : ℕ) : Type 0 where
  pub base : i.heap_base ≡ s.heap_base
  pub end : i.heap_end ≡ s.heap_end
  pub limit : (root i quota).limit ≡ limit_at s quota

-- the state's objects are those that are seen
pub record SharesObjects (m : State) (s : EngineRow) : Type 0 where
  pub objects : m.objects ≡ s.state.objects
  pub next : m.next ≡ s.state.next

-- RAM, the heap and the quotas lie where the image has them, and there are as many statuses as threads
pub record HasLayout (i : Image) (s : EngineRow) (ss : List Status) : Type 0 where
  pub ram : s.region.ram ≡ i.ram
  pub heap : HasHeap i s
  pub statuses : length ss ≡ length s.state.threads
