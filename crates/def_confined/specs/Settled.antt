-- Settled states: what is untagged, wherever it stands, has no root and no source. It stands beside *Confined*, which
-- speaks of tagged values.
use Rattle.std.specs.Prelude.{ℕ}
use Rattle.def_words.specs.Capability.{IsSettled}
use Rattle.def_machine.specs.State.{State, Thread, Frame, thread, register, granule}
use Rattle.def_machine.specs.Objects.{Each}

-- the capabilities that a frame saved
pub record FrameSettled (f : Frame) : Type 0 where
  pub c1 : IsSettled f.c1
  pub c2 : IsSettled f.c2
  pub c3 : IsSettled f.c3
  pub c8 : IsSettled f.c8
  pub c9 : IsSettled f.c9

pub record ThreadSettled (t : Thread) : Type 0 where
  pub pcc : IsSettled t.pcc
  pub registers : (n : ℕ) → IsSettled (register t n)
  pub frames : Each FrameSettled t.frames

pub record Settled (s : State) : Type 0 where
  pub granules : (k : ℕ) → IsSettled (granule s k).cap
  pub threads : (t : ℕ) → ThreadSettled (thread s t)
