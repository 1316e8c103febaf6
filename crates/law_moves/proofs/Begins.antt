-- A sweep begins: the quarantined are painted.
use Rattle.std.proofs.Common.{ℕ, ◌≡◌, ◌+◌, ◌-◌, ◌<◌, inl, inr, ◌&&◌, not, cond, nat_eq, List, [], ◌∷◌, Some, None, refl, ap, arith}
use Rattle.law_lists.proofs.Tests.{chosen}
use Rattle.def_words.specs.declared.Cap.{Cap}
use Rattle.def_machine.specs.Image.{Image, address_of, area_of}
use Rattle.def_machine.specs.State.{State, Frame, Object, thread, register, granule}
use Rattle.def_machine.specs.Objects.{Any, Each, painted, charges, has_quarantined}
use Rattle.def_machine.specs.Heap.{begun_sweep}
use Rattle.def_confined.specs.Places.{HasObject, Covers, LiveCovers, LiveAt}
use Rattle.def_confined.specs.Confined.{Confined, Apart, AllApart, ObjectFits, MarksAt}
use Rattle.def_confined.specs.Changes.{StateFades}
use Rattle.def_confined.specs.Swept.{FramesSwept, Swept, Bounded}
use Rattle.law_moves.proofs.Fades.{faded_confined}
use Rattle.law_moves.proofs.Allocates.{stays_there, frames_stay}

abbrev paint : Object → Object
paint r = record r { painted = not r.live }

paint_any : (P Q : Object → Type 0) (rows : List Object) → ((r : Object) → P r → Q (paint r)) → Any P rows → Any Q (painted rows)
paint_any P Q [] f h = h
paint_any P Q (r ∷ rs) f (inl p) = inl (f r p)
paint_any P Q (r ∷ rs) f (inr h) = inr (paint_any P Q rs f h)

any_paint : (P Q : Object → Type 0) (rows : List Object) → ((r : Object) → Q (paint r) → P r) → Any Q (painted rows) → Any P rows
any_paint P Q [] f h = h
any_paint P Q (r ∷ rs) f (inl p) = inl (f r p)
any_paint P Q (r ∷ rs) f (inr h) = inr (any_paint P Q rs f h)

paint_each : (P Q : Object → Type 0) (rows : List Object) → ((r : Object) → P r → Q (paint r)) → Each P rows → Each Q (painted rows)
paint_each P Q [] f h = tt
paint_each P Q (r ∷ rs) f h = (f r h.0, paint_each P Q rs f h.1)

pub paint_apart : (rows : List Object) → AllApart rows → AllApart (painted rows)
paint_apart [] h = tt
paint_apart (r ∷ rs) h = (paint_each (Apart r) (Apart (paint r)) rs (λ q a. a) h.0, paint_apart rs h.1)

paint_charges : (q : ℕ) (rows : List Object) → charges q (painted rows) ≡ charges q rows
paint_charges q [] = refl
paint_charges q (r ∷ rs) = ap (λ n. cond (r.live && nat_eq r.quota q) r.charge 0 + n) (paint_charges q rs)

abbrev pub begun : State → State
begun s = record s { objects = painted s.objects; front = Some 0 }

begun_fades : (i : Image) (s : State) → Confined i s → StateFades i s (begun s)
begun_fades i s h = record {
  caps = λ k. stays_there i s.objects (painted s.objects) (granule s k).cap grow;
  fixed = λ k is same. refl;
  domains = λ k tagged d. (paint_any (LiveAt i (address_of i k) d) (LiveAt i (address_of i k) d) s.objects (λ r m. m), any_paint (LiveAt i (address_of i k) d) (LiveAt i (address_of i k) d) s.objects (λ r m. m));
  threads = λ u. record {
    pcc = stays_there i s.objects (painted s.objects) (thread s u).pcc grow;
    registers = λ n. stays_there i s.objects (painted s.objects) (register (thread s u) n) grow;
    frames = frames_stay i s.objects (painted s.objects) (thread s u).frames grow;
    posture = refl;
  };
  live = λ u runs n tagged heap some. paint_any (LiveCovers (register (thread s u) n)) (LiveCovers (register (thread s u) n)) s.objects (λ r k. (k.0, record { number = k.1.number; quota = k.1.quota; low = k.1.low; high = k.1.high })) (h.live u runs n tagged heap some);
  apart = paint_apart s.objects h.apart;
  numbered = h.numbered;
  fits = paint_each (ObjectFits i s.next) (ObjectFits i s.next) s.objects (λ r f. record { first = f.first; number = f.number; low = f.low; high = f.high; whole = f.whole; charge = f.charge; unpainted = λ live. ap not live }) h.fits;
  marks = λ k. record {
    why = λ mark. paint_any (MarksAt (address_of i k)) (MarksAt (address_of i k)) s.objects (λ r m. m) ((h.marks k).why mark);
    all = λ there. (h.marks k).all (any_paint (MarksAt (address_of i k)) (MarksAt (address_of i k)) s.objects (λ r m. m) there);
  };
  limits = λ q. rw (paint_charges q s.objects) (h.limits q);
  size = refl;
}
  where
    grow : (d : Cap) → HasObject i s.objects d → HasObject i (painted s.objects) d
    grow d has heap some = paint_any (Covers d) (Covers d) s.objects (λ r k. record { number = k.number; quota = k.quota; low = k.low; high = k.high }) (has heap some)

pub begun_confined : (i : Image) (s : State) → Confined i s → Confined i (begun_sweep s)
begun_confined i s h = chosen (Confined i) (has_quarantined s.objects) (begun s) s (λ is. faded_confined i s (begun s) h (begun_fades i s h)) (λ not. h)

never : (x : ℕ) → x < 0 → ⊥
never x lt = omega (arith, lt)

frames_unswept : (i : Image) (objects : List Object) (area : ℕ) (fs : List Frame) → FramesSwept i objects (Some 0) area fs
frames_unswept i objects area [] = tt
frames_unswept i objects area (f ∷ fs) = (
  record { c1 = λ lt. absurd (never _ lt); c2 = λ lt. absurd (never _ lt); c3 = λ lt. absurd (never _ lt); c8 = λ lt. absurd (never _ lt); c9 = λ lt. absurd (never _ lt) },
  frames_unswept i objects area fs,
)

pub begun_swept : (i : Image) (s : State) → Swept i s → Swept i (begun_sweep s)
begun_swept i s w = chosen (Swept i) (has_quarantined s.objects) (begun s) s
    (λ is. record {
      granules = λ k lt. absurd (never _ lt);
      registers = λ t n not lt. absurd (never _ lt);
      frames = λ t. frames_unswept i (painted s.objects) (area_of i t - i.ram) (thread s t).frames;
      idle = λ none. absurd (let clash : Some 0 ≡ None = none in cc);
    })
    (λ not. w)

pub begun_bounded : (i : Image) (s : State) → Bounded i s → Bounded i (begun_sweep s)
begun_bounded i s b = chosen (Bounded i) (has_quarantined s.objects) (begun s) s
    (λ is. record { deep = b.deep; few = b.few; many = b.many; areas = b.areas; fits = b.fits }) (λ not. b)
