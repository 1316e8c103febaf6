-- What becomes of a row: its thread goes on elsewhere, calls, or loses its innermost frame.
use Rattle.std.specs.Prelude.{ℕ, ◌≡◌, Bool, nat_lt, List}
use Rattle.def_words.specs.declared.Cap.{Cap}
use Rattle.def_words.specs.declared.Posture.{Posture}
use Rattle.def_memory.specs.declared.Granule.{Granule}
use Rattle.def_memory.specs.Ranges.{zeroed_from}
use Rattle.def_machine.specs.State.{Frame}
use Rattle.def_machine.specs.Registers.{written}
use Rattle.def_step.specs.Switch.{Switched, Enters}
use Rattle.def_areas.specs.Touches.{Touches}
use Rattle.ct_areas.specs.declared.thread.Thread as row
use Rattle.ct_areas.specs.Threads.{area_begin, area_end, thread_of}
use Rattle.ct_switch.specs.Calls.{thread_left}
use Rattle.ct_threads.specs.Kept.{IsKept}

-- it goes on elsewhere, with this posture, and a register gets a value
abbrev pub row_gone : row.Thread → Cap → Posture → ℕ → Cap → row.Thread
row_gone t pcc posture to value =
    record t { pcc = pcc; regs = written t.regs to value; posture = posture }

-- where the switch enters, memory before a frame is written: the stack is zeroed up to the new top
abbrev pub cleared : List Granule → row.Thread → Switched → List Granule
cleared gs t (Enters export high) = zeroed_from t.area.stack high t.area.ram gs
cleared gs t _ = gs

-- The innermost frame of a row's thread ended with these results, by the frame; `more` tells whether another goes on.
-- Beside the stack, which was zeroed up to the frame's top, its area alone changed.
pub record Ends (gs hs : List Granule) (t new : row.Thread) (more : Bool)
    (first second : Frame → Cap) : Type 0 where
  pub result : more ≡ nat_lt 1 t.depth
  pub kept : IsKept hs more new
  pub area : new.area ≡ t.area
  pub thread : thread_of hs more new ≡ thread_left gs t first second
  pub touches : Touches (area_begin t.area) (area_end t.area)
      (zeroed_from t.area.stack t.top t.area.ram gs) hs
