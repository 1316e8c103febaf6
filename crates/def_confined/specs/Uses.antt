-- What is used in a confined state, and by whom.
use Rattle.std.specs.Prelude.{ℕ, ◌≡◌, ◌+◌, ◌≤◌, List, ◌∷◌, true}
use Rattle.def_words.specs.Authority.{cap_base, cap_top}
use Rattle.def_words.specs.Permissions.{has}
use Rattle.ct_entry.specs.declared.acts.Act.{Act}
use Rattle.ct_entry.specs.declared.acts.Deed.{Deed}
use Rattle.ct_entry.specs.declared.acts.Owned.{Owned}
use Rattle.ct_entry.specs.declared.rows.Kind.TheVariants.{Export, Device, Quota}
use Rattle.def_reach.specs.Roots.{Listing}
use Rattle.def_machine.specs.Image.{Image, root}
use Rattle.def_machine.specs.State.{State, Frame, thread, register}

-- gates are of exports alone
abbrev pub GatesOfExports : Image → Type 0
GatesOfExports i = (n : ℕ) → (root i n).disabled ≡ true → (root i n).origin ≡ Listing Export

-- a deed of thread t, whose top frame is f, by the root of what its register n holds
abbrev pub deed_by : State → ℕ → ℕ → Frame → Act → Deed
deed_by s t n f act =
    record { thread = t; actor = f.actor; entry = (register (thread s t) n).shadow.root; act = act }

-- a span with interrupts off of that thread
abbrev pub span_of : State → ℕ → Frame → Owned
span_of s t f = record { thread = t; actor = f.actor; export = (thread s t).posture.source }

-- register n of thread t, whose top frame is f, is tagged
pub record HoldsTagged (s : State) (t n : ℕ) (f : Frame) (fs : List Frame) : Type 0 where
  pub frames : (thread s t).frames ≡ f ∷ fs
  pub tagged : (register (thread s t) n).tag ≡ true

-- and authorises an access of a device, with this right
pub record Accesses (i : Image) (s : State) (t n right address width : ℕ) (f : Frame)
    (fs : List Frame) : Type 0 where
  pub holds : HoldsTagged s t n f fs
  pub device : (root i (register (thread s t) n).shadow.root).origin ≡ Listing Device
  pub may : has (register (thread s t) n) right ≡ true
  pub low : cap_base (register (thread s t) n) ≤ address
  pub high : address + width ≤ cap_top (register (thread s t) n)

-- and is of a quota
pub record Charges (i : Image) (s : State) (t n : ℕ) (f : Frame) (fs : List Frame) : Type 0 where
  pub holds : HoldsTagged s t n f fs
  pub quota : (root i (register (thread s t) n).shadow.root).origin ≡ Listing Quota
