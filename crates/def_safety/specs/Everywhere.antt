-- What holds of each value that stands anywhere in a state: in a granule, a register, a program counter or a frame.
use Rattle.std.specs.Prelude.{ℕ}
use Rattle.def_words.specs.declared.Cap.{Cap}
use Rattle.def_machine.specs.State.{State, Thread, Frame, thread, register, granule}
use Rattle.def_machine.specs.Objects.{Each}

-- of the capabilities that a frame saved
pub record FrameHas (P : Cap → Type 0) (f : Frame) : Type 0 where
  pub c1 : P f.c1
  pub c2 : P f.c2
  pub c3 : P f.c3
  pub c8 : P f.c8
  pub c9 : P f.c9

pub record ThreadHas (P : Cap → Type 0) (t : Thread) : Type 0 where
  pub pcc : P t.pcc
  pub registers : (n : ℕ) → P (register t n)
  pub frames : Each (FrameHas P) t.frames

pub record Everywhere (P : Cap → Type 0) (s : State) : Type 0 where
  pub granules : (k : ℕ) → P (granule s k).cap
  pub threads : (t : ℕ) → ThreadHas P (thread s t)
