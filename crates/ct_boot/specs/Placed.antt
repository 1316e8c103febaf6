-- Where the threads' areas and stacks lie, as the image has them.
use Rattle.std.specs.Prelude.{ℕ, ◌+◌, ◌≡◌, ◌<◌, List, length, slice_index_or}
use Rattle.def_machine.specs.Image as image
use Rattle.def_machine.specs.Image.{Image, stack_base, stack_top}
use Rattle.def_machine.specs.State.{Frame, outermost}
use Rattle.ct_areas.specs.declared.thread.Area.{Area}
use Rattle.ct_areas.specs.Threads.{HasArea, frames_most}
use Rattle.ct_engine.specs.Kept.{StackLies}
use Rattle.ct_engine.specs.Seen.{EngineRow, region_of, no_area, thread, area_at}

-- the area and the stack of thread t, in RAM of so many bytes
pub record IsPlaced (i : Image) (size t : ℕ) (a : Area) : Type 0 where
  pub area : HasArea size a
  pub stack : StackLies (region_of i) i.heap_base size a
  pub ram_is : a.ram ≡ i.ram
  pub base_is : a.stack ≡ stack_base i t
  pub top_is : a.stack + a.stack_length ≡ stack_top i t
  pub begin_is : a.trusted ≡ image.area_of i t
  pub room_is : frames_most a ≡ image.frames_most i t

-- those of all threads, by number
pub record ArePlaced (i : Image) (size : ℕ) (areas : List Area) : Type 0 where
  pub count : length areas ≡ length i.frames
  pub each : (t : ℕ) → t < length areas → IsPlaced i size t (slice_index_or areas t no_area)

-- the innermost frame of a thread that has some
abbrev pub innermost : EngineRow → ℕ → Frame
innermost s t = slice_index_or (thread s t).frames 0 (outermost 0 0 0)

-- Threads before their first step: each has its area and one frame, whose top is its stack's end.
pub record AreFirst (e : EngineRow) : Type 0 where
  pub count : length e.state.threads ≡ length e.areas
  pub one : (t : ℕ) → t < length e.state.threads → length (thread e t).frames ≡ 1
  pub top : (t : ℕ) → t < length e.state.threads
      → (innermost e t).top ≡ (area_at e t).stack + (area_at e t).stack_length
