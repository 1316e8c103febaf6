-- A slice of a sweep over granules, and over frames and registers that stand in a thread's area: what stands at an
-- offset of RAM passes the load filter where the slice has that offset.
use Rattle.std.specs.Prelude.{ℕ, ◌+◌, ◌≡◌, ◌&&◌, Bool, false, cond, nat_le, nat_lt, List, [], ◌∷◌, length, Option, Some, None}
use Rattle.def_profile.specs.Areas.{frame_after}
use Rattle.def_profile.specs.declared.layout.TheConstants.{GRANULE}
use Rattle.def_words.specs.declared.Cap.{Cap}
use Rattle.def_memory.specs.declared.Granule.{Granule}
use Rattle.def_memory.specs.Granules.{plain}
use Rattle.def_machine.specs.State.{Thread, Frame, Object}
use Rattle.def_machine.specs.Memory.{filtered_in}
use Rattle.def_machine.specs.Objects.{is_painted_at}

-- what stands at an offset, after the slice from one offset to another: it has passed the load filter of this memory
abbrev pub filtered_between : ℕ → List Granule → ℕ → ℕ → ℕ → Cap → Cap
filtered_between ram gs low high offset c =
    cond (nat_le low offset && nat_lt offset high) (filtered_in ram gs c) c

-- ---- of what stands at each offset, this is kept

-- the first granule stands at this offset
abbrev pub kept_granules : (ℕ → Cap → Cap) → ℕ → List Granule → List Granule
kept_granules keep offset [] = []
kept_granules keep offset (g ∷ gs) =
    record g { cap = keep offset g.cap } ∷ kept_granules keep (offset + GRANULE) gs

-- the capabilities that a frame saved, which begins at an offset
abbrev pub kept_frame : (ℕ → Cap → Cap) → ℕ → Frame → Frame
kept_frame keep at f = record f {
  c1 = keep at f.c1;
  c2 = keep (at + 8) f.c2;
  c3 = keep (at + 16) f.c3;
  c8 = keep (at + 24) f.c8;
  c9 = keep (at + 32) f.c9;
}

-- the frames of an area that begins at an offset, innermost first: a frame stands over those that it was pushed on
abbrev pub kept_frames : (ℕ → Cap → Cap) → ℕ → List Frame → List Frame
kept_frames keep area [] = []
kept_frames keep area (f ∷ fs) =
    kept_frame keep (frame_after area (length fs)) f ∷ kept_frames keep area fs

abbrev pub kept_registers : (ℕ → Cap → Cap) → ℕ → List Cap → List Cap
kept_registers keep at [] = []
kept_registers keep at (c ∷ cs) = keep at c ∷ kept_registers keep (at + GRANULE) cs

-- a thread whose area begins at an offset; registers and program counter of the running thread have no place: its area
-- begins with where they would stand
abbrev pub kept_thread : (ℕ → Cap → Cap) → ℕ → Bool → Thread → Thread
kept_thread keep area runs t = record t {
  pcc = cond runs t.pcc (keep area t.pcc);
  registers = cond runs t.registers (kept_registers keep area t.registers);
  frames = kept_frames keep area t.frames;
}

abbrev pub is_number : Option ℕ → ℕ → Bool
is_number None t = false
is_number (Some u) t = nat_le u t && nat_le t u

-- the threads, of which the first has number t; the area of each begins at an offset
abbrev pub kept_threads : (ℕ → Cap → Cap) → (ℕ → ℕ) → Option ℕ → ℕ → List Thread → List Thread
kept_threads keep area running t [] = []
kept_threads keep area running t (x ∷ xs) =
    kept_thread keep (area t) (is_number running t) x ∷ kept_threads keep area running (t + 1) xs

-- what is kept of each capability: zero of zero, and its word
pub record KeepsWords (f : ℕ → Cap → Cap) : Type 0 where
  pub zero_is : (n : ℕ) → f n (plain 0) ≡ plain 0
  pub word_is : (n : ℕ) (c : Cap) → (f n c).word ≡ c.word

-- ---- the end of a sweep

-- the marks of what is painted go; the first granule stands at this address
abbrev pub marks_cleared : List Object → ℕ → List Granule → List Granule
marks_cleared objects x [] = []
marks_cleared objects x (g ∷ gs) =
    record g { mark = cond (is_painted_at objects x) false g.mark } ∷ marks_cleared objects (x + 8) gs
