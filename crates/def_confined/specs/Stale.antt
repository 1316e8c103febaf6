-- What a sweep that ends leaves nowhere: a capability of a painted object.
use Rattle.std.specs.Prelude.{ℕ, ◌≡◌, ◌<◌, true, false, List, Some}
use Rattle.def_words.specs.declared.Cap.{Cap}
use Rattle.def_words.specs.Authority.{cap_base, cap_top}
use Rattle.def_machine.specs.State.{State, Thread, Frame, Object, thread, register, granule}
use Rattle.def_machine.specs.Objects.{Each, is_painted_at}

-- where it is tagged and its authority isn't empty, its base lies in no painted chunk
abbrev pub NotStale : List Object → Cap → Type 0
NotStale objects c =
    c.tag ≡ true → cap_base c < cap_top c → is_painted_at objects (cap_base c) ≡ false

-- the capabilities that a frame saved
pub record SavedClean (objects : List Object) (f : Frame) : Type 0 where
  pub c1 : NotStale objects f.c1
  pub c2 : NotStale objects f.c2
  pub c3 : NotStale objects f.c3
  pub c8 : NotStale objects f.c8
  pub c9 : NotStale objects f.c9

pub record StoppedClean (objects : List Object) (t : Thread) : Type 0 where
  pub pcc : NotStale objects t.pcc
  pub registers : (n : ℕ) → NotStale objects (register t n)

-- No granule holds one, no frame, and no thread that doesn't run: what the running thread holds is of live objects.
pub record IsClean (s : State) : Type 0 where
  pub granules : (k : ℕ) → NotStale s.objects (granule s k).cap
  pub frames : (t : ℕ) → Each (SavedClean s.objects) (thread s t).frames
  pub stopped : (t : ℕ) → (s.running ≡ Some t → ⊥) → StoppedClean s.objects (thread s t)
