-- *Confined*: the invariant of the machine.
use Rattle.std.specs.Prelude.{ℕ, ◌≡◌, ◌+◌, ◌*◌, ◌%◌, ◌≤◌, ◌<◌, ◌≢◌, Bool, true, false, List, [], ◌∷◌, length, Some}
use Rattle.def_words.specs.declared.Cap.{Cap}
use Rattle.def_words.specs.Permissions.{has, execute}
use Rattle.def_words.specs.Seals.{cap_seal}
use Rattle.ct_entry.specs.declared.rows.Kind.TheVariants.{Stack}
use Rattle.def_reach.specs.Roots.{Listing, is_code}
use Rattle.def_reach.specs.Sharing.{Joined, Reaches}
use Rattle.def_machine.specs.Image.{Image, region, root, stack_entry, stack_base, stack_top, address_of}
use Rattle.def_machine.specs.State.{State, Thread, Frame, Object, thread, register, granule}
use Rattle.def_machine.specs.Objects.{Any, Each, InChunk, ApartFrom, charges}
use Rattle.def_confined.specs.Capabilities.{IsReturnType, Kept}
use Rattle.def_confined.specs.Places.{InFrames, InRegion, HasLive}

abbrev pub TopUnder : ℕ → List Frame → Type 0
TopUnder x [] = Unit {0}
TopUnder x (g ∷ gs) = x ≤ g.top

-- a frame whose export passes capabilities is joined to its caller: a return hands such capabilities back
abbrev pub PassesTo : Image → Frame → List Frame → Type 0
PassesTo i f [] = Unit {0}
PassesTo i f (g ∷ gs) = (root i f.export).passes ≡ true → Joined i.entries f.actor g.actor

abbrev pub HasReturn : Frame → List Frame → Type 0
HasReturn f [] = Unit {0}
HasReturn f (g ∷ gs) = (f.c1.tag ≡ true) × IsReturnType (cap_seal f.c1)

pub record FrameHolds (i : Image) (objects : List Object) (t : ℕ) (f : Frame)
    (fs : List Frame) : Type 0 where
  pub stack : (root i (stack_entry i t)).origin ≡ Listing Stack
  pub even : f.top % 16 ≡ 0
  pub low : stack_base i t ≤ f.top
  pub high : f.top ≤ stack_top i t
  pub under : TopUnder f.top fs
  pub passes : PassesTo i f fs
  pub returns : HasReturn f fs
  pub c1 : InFrames i objects t fs f.c1
  pub c2 : InFrames i objects t fs f.c2
  pub c3 : InFrames i objects t fs f.c3
  pub c8 : InFrames i objects t fs f.c8
  pub c9 : InFrames i objects t fs f.c9

abbrev pub FramesHold : Image → List Object → ℕ → List Frame → Type 0
FramesHold i objects t [] = Unit {0}
FramesHold i objects t (f ∷ fs) = FrameHolds i objects t f fs × FramesHold i objects t fs

-- a posture that is off has an export with posture disabled as source, whose owner reaches the thread
abbrev pub PostureFits : Image → Thread → List Frame → Type 0
PostureFits i t [] = Unit {0}
PostureFits i t (f ∷ fs) =
    t.posture.off ≡ true
    → ((root i t.posture.source).disabled ≡ true)
    × Reaches i.entries (root i t.posture.source).owner f.actor

-- part 7, of a program counter
pub record IsPcc (i : Image) (c : Cap) : Type 0 where
  pub unsealed : cap_seal c ≡ 0
  pub executes : has c execute ≡ true
  pub code : is_code (root i c.shadow.root).origin ≡ true

pub record SavedKept (i : Image) (f : Frame) : Type 0 where
  pub c1 : Kept i f.c1
  pub c2 : Kept i f.c2
  pub c3 : Kept i f.c3
  pub c8 : Kept i f.c8
  pub c9 : Kept i f.c9

-- part 7, of every place but a program counter
pub record AllKept (i : Image) (s : State) : Type 0 where
  pub granules : (k : ℕ) → Kept i (granule s k).cap
  pub registers : (t n : ℕ) → Kept i (register (thread s t) n)
  pub frames : (t : ℕ) → Each (SavedKept i) (thread s t).frames

abbrev pub Apart : Object → Object → Type 0
Apart r q = (r.number ≢ q.number) × ApartFrom r q

abbrev pub AllApart : List Object → Type 0
AllApart [] = Unit {0}
AllApart (r ∷ rs) = Each (Apart r) rs × AllApart rs

pub record ObjectFits (i : Image) (next : ℕ) (r : Object) : Type 0 where
  pub first : 0 < r.number
  pub number : r.number < next
  pub low : i.heap_base + 8 ≤ r.base
  pub high : r.base + r.length ≤ i.heap_end
  pub whole : (r.base % 8 ≡ 0) × (r.length % 8 ≡ 0)
  pub charge : r.charge ≡ r.length + 8
  pub unpainted : r.live ≡ true → r.painted ≡ false

-- a granule of a quarantined chunk
abbrev pub MarksAt : ℕ → Object → Type 0
MarksAt x r = (r.live ≡ false) × InChunk r x

-- marked are exactly the granules of quarantined chunks
pub record MarksFit (i : Image) (objects : List Object) (k : ℕ) (mark : Bool) : Type 0 where
  pub why : mark ≡ true → Any (MarksAt (address_of i k)) objects
  pub all : Any (MarksAt (address_of i k)) objects → mark ≡ true

pub record Confined (i : Image) (s : State) : Type 0 where
  pub granules : (k : ℕ) → InRegion i s k (region i k) (granule s k)
  pub pcc : (t : ℕ) → InFrames i s.objects t (thread s t).frames (thread s t).pcc
  pub registers : (t n : ℕ) → InFrames i s.objects t (thread s t).frames (register (thread s t) n)
  pub frames : (t : ℕ) → FramesHold i s.objects t (thread s t).frames
  pub postures : (t : ℕ) → PostureFits i (thread s t) (thread s t).frames
  pub runs : (t : ℕ) → (thread s t).pcc.tag ≡ true → IsPcc i (thread s t).pcc
  pub kept : AllKept i s
  pub live : (t : ℕ) → s.running ≡ Some t → (n : ℕ) → HasLive i s.objects (register (thread s t) n)
  pub apart : AllApart s.objects
  pub numbered : 0 < s.next
  pub fits : Each (ObjectFits i s.next) s.objects
  pub marks : (k : ℕ) → MarksFit i s.objects k (granule s k).mark
  pub limits : (q : ℕ) → charges q s.objects ≤ (root i q).limit
  pub size : i.heap_end ≤ i.ram + 8 * length s.granules
