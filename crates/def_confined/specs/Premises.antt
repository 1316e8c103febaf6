-- What the whole moves take of a state.
use Rattle.std.specs.Prelude.{ℕ, ◌≡◌, ◌<◌, true, List, [], length, Some}
use Rattle.def_words.specs.declared.Cap.{Cap}
use Rattle.ct_entry.specs.declared.rows.Kind.TheVariants.{Quota}
use Rattle.def_reach.specs.Roots.{Listing}
use Rattle.def_sched.specs.declared.Status.{Status}
use Rattle.def_sched.specs.declared.Status.TheVariants.{Ended}
use Rattle.def_machine.specs.Image.{Image, root, frames_most}
use Rattle.def_machine.specs.State.{State, Frame, Object, thread, register}
use Rattle.def_machine.specs.Frames.{Given}
use Rattle.def_confined.specs.Changes.{Enters, NewObject}
use Rattle.def_confined.specs.Made.{IsObjectCap}

-- the running thread's c10 is of a quota, an object charged to it may be put beside the others, and a capability is of it
pub record Allocates (i : Image) (s : State) (t : ℕ) (r : Object) (c : Cap) : Type 0 where
  pub running : s.running ≡ Some t
  pub object : NewObject i s r
  pub tagged : (register (thread s t) 10).tag ≡ true
  pub quota : (register (thread s t) 10).shadow.root ≡ r.quota
  pub is_quota : (root i r.quota).origin ≡ Listing Quota
  pub made : c.tag ≡ true → IsObjectCap i r c

-- the checks of a call passed, and the thread may have a frame more
pub record HasRoom (i : Image) (s : State) (t : ℕ) (g : Frame) (gs : List Frame)
    (callee export high : ℕ) (w : Given) : Type 0 where
  pub enters : Enters i s t g gs callee export high w
  pub room : length (thread s t).frames < frames_most i t

-- a thread that has frames gets a status in which it hasn't ended
pub record Turns (s : State) (t : ℕ) (status : Status) : Type 0 where
  pub goes_on : status ≡ Ended → ⊥
  pub frames : (thread s t).frames ≡ [] → ⊥
