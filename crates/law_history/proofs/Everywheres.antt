-- What holds everywhere, from what else holds everywhere.
use Rattle.std.proofs.Common.{◌≡◌, true, List, [], ◌∷◌}
use Rattle.def_words.specs.declared.Cap.{Cap}
use Rattle.def_machine.specs.Image.{Image}
use Rattle.def_machine.specs.State.{State, Frame, thread, register, granule}
use Rattle.def_machine.specs.Objects.{Each}
use Rattle.def_confined.specs.Confined.{Confined}
use Rattle.def_confined.specs.Partitioned.{Partitioned}
use Rattle.def_confined.specs.Places.{HasObject}
use Rattle.def_safety.specs.Everywhere.{FrameHas, Everywhere}
use Rattle.def_confined.specs.Saved.{SavedHave}
use Rattle.law_moves.proofs.Holding.{granule_object, register_object, pcc_object, frames_object}

module _ (P Q R : Cap → Type 0) (f : (c : Cap) → P c → Q c → R c) where
  frames_both : (fs : List Frame) → Each (FrameHas P) fs → Each (FrameHas Q) fs → Each (FrameHas R) fs
  frames_both [] a b = tt
  frames_both (g ∷ gs) a b = (
    record {
      c1 = f g.c1 a.0.c1 b.0.c1;
      c2 = f g.c2 a.0.c2 b.0.c2;
      c3 = f g.c3 a.0.c3 b.0.c3;
      c8 = f g.c8 a.0.c8 b.0.c8;
      c9 = f g.c9 a.0.c9 b.0.c9;
    },
    frames_both gs a.1 b.1,
  )

  pub both : (s : State) → Everywhere P s → Everywhere Q s → Everywhere R s
  both s a b = record {
    granules = λ k. f (granule s k).cap (a.granules k) (b.granules k);
    threads = λ t. record {
      pcc = f (thread s t).pcc (a.threads t).pcc (b.threads t).pcc;
      registers = λ n. f (register (thread s t) n) ((a.threads t).registers n) ((b.threads t).registers n);
      frames = frames_both (thread s t).frames (a.threads t).frames (b.threads t).frames;
    };
  }

pub each_there : (P Q : Cap → Type 0) → ((c : Cap) → P c → Q c) → (s : State) → Everywhere P s → Everywhere Q s
each_there P Q f s h = both P P Q (λ c a b. f c a) s h h

-- each heap capability is of an object
abbrev pub OfObject : Image → State → Cap → Type 0
OfObject i s c = c.tag ≡ true → HasObject i s.objects c

saved : (i : Image) (s : State) (fs : List Frame) → Each (SavedHave i s.objects) fs → Each (FrameHas (OfObject i s)) fs
saved i s [] h = tt
saved i s (f ∷ fs) h = (record { c1 = h.0.c1; c2 = h.0.c2; c3 = h.0.c3; c8 = h.0.c8; c9 = h.0.c9 }, saved i s fs h.1)

pub objects_everywhere : (i : Image) (s : State) → Partitioned i → Confined i s → Everywhere (OfObject i s) s
objects_everywhere i s parts held = record {
  granules = λ k. granule_object i s k parts held;
  threads = λ t. record { pcc = pcc_object i s t held; registers = λ n. register_object i s t n held; frames = saved i s (thread s t).frames (frames_object i s t held) };
}
