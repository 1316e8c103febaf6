-- What the laws take of each kind of change: one thread changes and its frames stay; one thread changes whole
-- and its stack is zeroed; capabilities stay or lose their tag while objects change.
use Rattle.std.specs.Prelude.{ℕ, ◌≡◌, ◌+◌, ◌%◌, ◌≤◌, ◌<◌, ◌⊎◌, true, false, List, [], ◌∷◌, length, Option, Some}
use Rattle.def_profile.specs.declared.seals.TheConstants.{EXPORT_TYPE}
use Rattle.def_words.specs.declared.Cap.{Cap}
use Rattle.def_words.specs.declared.Posture.{Posture}
use Rattle.def_words.specs.Seals.{cap_seal}
use Rattle.ct_entry.specs.declared.rows.Owner.TheVariants.{Compartment}
use Rattle.ct_entry.specs.declared.rows.Kind.TheVariants.{Stack}
use Rattle.def_reach.specs.Roots.{Listing}
use Rattle.def_machine.specs.Image.{Image, Fixed, root, region, booted, address_of, stack_entry, stack_base, stack_top}
use Rattle.def_machine.specs.State.{State, Thread, Frame, Object, thread, register, granule}
use Rattle.def_machine.specs.Objects.{Any, Each, charges}
use Rattle.def_machine.specs.Frames.{Given}
use Rattle.def_confined.specs.Capabilities.{Rooted, Kept, IsReturnType}
use Rattle.def_confined.specs.Places.{InFrames, HasObject, HasLive, HeapDomain, outer}
use Rattle.def_confined.specs.Confined.{Confined, FramesHold, PostureFits, IsPcc, SavedKept, Apart, AllApart, ObjectFits, MarksFit}
use Rattle.def_confined.specs.Made.{IsOwn, IsReturnSentry, IsStackUpTo}

-- a capability that a register of the running thread may get
pub record Puts (i : Image) (s : State) (t : ℕ) (c : Cap) : Type 0 where
  pub there : InFrames i s.objects t (thread s t).frames c
  pub kept : Kept i c
  pub live : HasLive i s.objects c

-- what a jump of a thread leaves: its program counter, its posture, and the link in a register
pub record Jumps (i : Image) (s : State) (t : ℕ) (pcc : Cap) (posture : Posture) (link : Cap) : Type
    0 where
  pub held : Confined i s
  pub target : InFrames i s.objects t (thread s t).frames pcc
  pub runs : pcc.tag ≡ true → IsPcc i pcc
  pub fits : PostureFits i (record (thread s t) { posture = posture }) (thread s t).frames
  pub gets : Puts i s t link

-- a thread's new self, with its frames as they were
pub record Changes (i : Image) (s : State) (t : ℕ) (new : Thread) (run : Option ℕ) : Type 0 where
  pub frames : new.frames ≡ (thread s t).frames
  pub pcc : InFrames i s.objects t (thread s t).frames new.pcc
  pub registers : (n : ℕ) → InFrames i s.objects t (thread s t).frames (register new n)
  pub kept : (n : ℕ) → Kept i (register new n)
  pub posture : PostureFits i new (thread s t).frames
  pub runs : new.pcc.tag ≡ true → IsPcc i new.pcc
  pub live : run ≡ Some t → (n : ℕ) → HasLive i s.objects (register new n)
  pub others : (u : ℕ) → (t ≡ u → ⊥) → run ≡ Some u → s.running ≡ Some u

-- a thread's new self whose stack was zeroed up to `high`
pub record Turned (i : Image) (s : State) (t high : ℕ) (new : Thread) (run : Option ℕ) : Type 0
  where
    pub stack : (root i (stack_entry i t)).origin ≡ Listing Stack
    pub inside : high ≤ stack_top i t
    pub outers : (x : ℕ) → high ≤ x → outer new.frames x ≡ outer (thread s t).frames x
    pub pcc : InFrames i s.objects t new.frames new.pcc
    pub registers : (n : ℕ) → InFrames i s.objects t new.frames (register new n)
    pub frames : FramesHold i s.objects t new.frames
    pub kept : (n : ℕ) → Kept i (register new n)
    pub kept_frames : Each (SavedKept i) new.frames
    pub posture : PostureFits i new new.frames
    pub runs : new.pcc.tag ≡ true → IsPcc i new.pcc
    pub live : run ≡ Some t → (n : ℕ) → HasLive i s.objects (register new n)
    pub stays : (u : ℕ) → run ≡ Some u → s.running ≡ Some u

-- what a call is: c1 of the caller, whose top frame is g, is a return sentry, c6 an import of the export; the callee's
-- stack ends at a multiple of 16, no further than the caller's top
pub record IsCall (i : Image) (s : State) (t : ℕ) (g : Frame) (gs : List Frame)
    (callee export high : ℕ) : Type 0 where
  pub running : s.running ≡ Some t
  pub caller : (thread s t).frames ≡ g ∷ gs
  pub return_tagged : (register (thread s t) 1).tag ≡ true
  pub return_sealed : IsReturnType (cap_seal (register (thread s t) 1))
  pub gate_tagged : (register (thread s t) 6).tag ≡ true
  pub gate_sealed : cap_seal (register (thread s t) 6) ≡ EXPORT_TYPE
  pub gate : (root i (register (thread s t) 6).shadow.root).of ≡ export
  pub callee_is : (root i export).owner ≡ Compartment callee
  pub even : high % 16 ≡ 0
  pub low : stack_base i t ≤ high
  pub under : high ≤ g.top

-- a call, with what the callee is given
pub record Enters (i : Image) (s : State) (t : ℕ) (g : Frame) (gs : List Frame)
    (callee export high : ℕ) (w : Given) : Type 0 where
  pub call : IsCall i s t g gs callee export high
  pub pcc : w.pcc.tag ≡ true → IsOwn i callee w.pcc × IsPcc i w.pcc
  pub globals : w.globals.tag ≡ true → IsOwn i callee w.globals
  pub back : w.back.tag ≡ true → IsReturnSentry i w.back
  pub stack : w.stack.tag ≡ true → IsStackUpTo i t high w.stack

-- a capability is as it was, of an object that is still there, or it is untagged
abbrev pub Fades : Image → List Object → List Object → Cap → Cap → Type 0
Fades i old new c d =
    (d.tag ≡ false) ⊎ ((d ≡ c) × (c.tag ≡ true → HasObject i old c → HasObject i new c))

pub record FrameFades (i : Image) (old new : List Object) (f h : Frame) : Type 0 where
  pub actor : h.actor ≡ f.actor
  pub export : h.export ≡ f.export
  pub same_top : h.top ≡ f.top
  pub c1 : Fades i old new f.c1 h.c1
  pub c2 : Fades i old new f.c2 h.c2
  pub c3 : Fades i old new f.c3 h.c3
  pub c8 : Fades i old new f.c8 h.c8
  pub c9 : Fades i old new f.c9 h.c9
  pub returns : f.c1.tag ≡ true → IsReturnType (cap_seal f.c1) → Rooted i f.c1 → h.c1 ≡ f.c1

abbrev pub FramesFade : Image → List Object → List Object → List Frame → List Frame → Type 0
FramesFade i old new [] [] = Unit {0}
FramesFade i old new (f ∷ fs) (h ∷ hs) = FrameFades i old new f h × FramesFade i old new fs hs
FramesFade i old new [] (h ∷ hs) = ⊥
FramesFade i old new (f ∷ fs) [] = ⊥

pub record ThreadFades (i : Image) (old new : List Object) (t u : Thread) : Type 0 where
  pub pcc : Fades i old new t.pcc u.pcc
  pub registers : (n : ℕ) → Fades i old new (register t n) (register u n)
  pub frames : FramesFade i old new t.frames u.frames
  pub posture : u.posture ≡ t.posture

pub record StateFades (i : Image) (s new : State) : Type 0 where
  pub caps : (k : ℕ) → Fades i s.objects new.objects (granule s k).cap (granule new k).cap
  pub fixed : (k : ℕ) → region i k ≡ Fixed → (granule s k).cap ≡ (booted i k).cap
      → (granule new k).cap ≡ (granule s k).cap
  pub domains : (k : ℕ) → (granule new k).cap.tag ≡ true → (d : ℕ)
      → (HeapDomain i s.objects (address_of i k) d → HeapDomain i new.objects (address_of i k) d)
      × (HeapDomain i new.objects (address_of i k) d → HeapDomain i s.objects (address_of i k) d)
  pub threads : (t : ℕ) → ThreadFades i s.objects new.objects (thread s t) (thread new t)
  pub live : (t : ℕ) → new.running ≡ Some t → (n : ℕ)
      → HasLive i new.objects (register (thread new t) n)
  pub apart : AllApart new.objects
  pub numbered : 0 < new.next
  pub fits : Each (ObjectFits i new.next) new.objects
  pub marks : (k : ℕ) → MarksFit i new.objects k (granule new k).mark
  pub limits : (q : ℕ) → charges q new.objects ≤ (root i q).limit
  pub size : length new.granules ≡ length s.granules

-- an object that may be put beside the others
pub record NewObject (i : Image) (s : State) (r : Object) : Type 0 where
  pub live : r.live ≡ true
  pub fits : ObjectFits i (s.next + 1) r
  pub number : r.number ≡ s.next
  pub apart : Each (Apart r) s.objects
  pub limit : r.charge + charges r.quota s.objects ≤ (root i r.quota).limit

-- a live object of the running thread's to be freed
pub record Frees (s : State) (t : ℕ) (r : Object) : Type 0 where
  pub running : s.running ≡ Some t
  pub there : Any (λ q. q ≡ r) s.objects
  pub live : r.live ≡ true
