-- What calls and their ends read, write and leave of a thread's row and its area.
use Rattle.std.specs.Prelude.{ℕ, ◌+◌, ◌-◌, ◌%◌, ◌≡◌, ◌≤◌, false, List, [], ◌∷◌, drop, slice_index_or}
use Rattle.def_profile.specs.Areas.{frame_after}
use Rattle.def_profile.specs.declared.layout.TheConstants.{FRAME_SIZE, SAVED_SIZE}
use Rattle.def_words.specs.declared.Cap.{Cap}
use Rattle.def_memory.specs.declared.Granule.{Granule}
use Rattle.def_memory.specs.Granules.{plain, holding_all}
use Rattle.def_memory.specs.Ranges.{zeroed_from}
use Rattle.def_machine.specs.State.{Thread, Frame}
use Rattle.def_machine.specs.Frames.{pushed_frame}
use Rattle.def_machine.specs.Memory.{filtered_in}
use Rattle.def_areas.specs.Areas.{frame_place, frame_at, frames_in, frame_words, caller_actor, caller_top, caller_handling}
use Rattle.ct_areas.specs.declared.thread.Area.{Area}
use Rattle.ct_areas.specs.declared.thread.Thread as row
use Rattle.ct_areas.specs.Threads.{area_begin}

-- ---- ranges of addresses

-- whole granules of RAM of so many bytes
pub record IsSpan (ram size from to : ℕ) : Type 0 where
  pub low : ram ≤ from
  pub order : from ≤ to
  pub high : to ≤ ram + size
  pub even : from % 8 ≡ ram % 8
  pub whole : to % 8 ≡ ram % 8

-- ---- a frame more

-- the innermost frame of a thread stands here
abbrev pub inner_place : row.Thread → ℕ
inner_place t = frame_place (area_begin t.area) (t.depth - 1)

abbrev pub register_in : row.Thread → ℕ → Cap
register_in t n = slice_index_or t.regs n (plain 0)

abbrev pub saved_of : row.Thread → List Cap
saved_of t =
    register_in t 1 ∷ register_in t 2 ∷ register_in t 3 ∷ register_in t 8 ∷ register_in t 9 ∷ []

-- above its frames stands one more, of this export, which keeps the thread's own
abbrev pub with_frame : List Granule → row.Thread → ℕ → List Granule
with_frame gs t export =
    holding_all gs (frame_place (area_begin t.area) t.depth)
    (frame_words (saved_of t) export t.actor t.top t.handling)

abbrev pub deeper : row.Thread → ℕ → ℕ → row.Thread
deeper t actor top = record t { depth = t.depth + 1; top = top; actor = actor; handling = false }

abbrev pub pushed : Thread → ℕ → ℕ → ℕ → Thread
pushed old actor export top = record old { frames = pushed_frame old actor export top ∷ old.frames }

-- ---- a frame less

-- the innermost frame, and those below it
abbrev pub inner_frame : List Granule → row.Thread → Frame
inner_frame gs t = frame_at gs (inner_place t) t.actor t.top t.handling

abbrev pub outer_frames : List Granule → row.Thread → List Frame
outer_frames gs t =
    frames_in gs (area_begin t.area) (caller_actor gs (inner_place t))
    (caller_top gs (inner_place t))
    (caller_handling gs (inner_place t)) (t.depth - 1)

-- what a frame keeps, through the load filter
abbrev pub filtered_frame : List Granule → ℕ → Frame → Frame
filtered_frame gs ram f = record f {
  c1 = filtered_in ram gs f.c1;
  c2 = filtered_in ram gs f.c2;
  c3 = filtered_in ram gs f.c3;
  c8 = filtered_in ram gs f.c8;
  c9 = filtered_in ram gs f.c9;
}

-- the registers of a frame's caller, with these two results
abbrev pub caller_registers : Frame → Cap → Cap → List Cap
caller_registers f first second =
    plain 0 ∷ plain 0 ∷ f.c2 ∷ f.c3 ∷ plain 0 ∷ plain 0 ∷ plain 0 ∷ plain 0 ∷ f.c8 ∷ f.c9
    ∷ first ∷ second
    ∷ plain 0 ∷ plain 0 ∷ plain 0 ∷ plain 0 ∷ []

-- the row with what its innermost frame keeps of the caller, and the results in c10 and c11
abbrev pub caller_row : List Granule → row.Thread → row.Thread
caller_row gs t = record t {
  pcc = (filtered_frame gs t.area.ram (inner_frame gs t)).c1;
  regs = caller_registers (filtered_frame gs t.area.ram (inner_frame gs t)) (register_in t 10)
      (register_in t 11);
}

-- where frame n of an area begins, as an address
abbrev pub frame_address : Area → ℕ → ℕ
frame_address a n = frame_after a.trusted n

abbrev pub frame_cleared : List Granule → Area → ℕ → List Granule
frame_cleared gs a n = zeroed_from (frame_address a n) (frame_address a n + FRAME_SIZE) a.ram gs

abbrev pub without_frame : List Granule → row.Thread → List Granule
without_frame gs t = frame_cleared gs t.area (t.depth - 1)

abbrev pub shallower : List Granule → row.Thread → row.Thread
shallower gs t = record t {
  depth = t.depth - 1;
  top = caller_top gs (inner_place t);
  actor = caller_actor gs (inner_place t);
  handling = caller_handling gs (inner_place t);
}

-- ---- a stop and a pick

abbrev pub with_saved : List Granule → row.Thread → List Granule
with_saved gs t = holding_all gs (area_begin t.area) (t.pcc ∷ drop 1 t.regs)

abbrev pub without_saved : List Granule → row.Thread → List Granule
without_saved gs t = zeroed_from t.area.trusted (t.area.trusted + SAVED_SIZE) t.area.ram gs
