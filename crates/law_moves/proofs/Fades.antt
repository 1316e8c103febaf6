-- Capabilities stay or lose their tag, while objects change.
use Rattle.std.proofs.Common.{ℕ, ◌≡◌, ◌%◌, ◌≤◌, inl, inr, true, false, nat_lt, List, [], ◌∷◌, refl, sym, ap, ◌∙◌, subst, arith}
use Rattle.law_lists.proofs.Tests.{lt_tells}
use Rattle.def_words.specs.declared.Cap.{Cap}
use Rattle.def_words.specs.declared.Posture.{Posture}
use Rattle.def_words.specs.Seals.{cap_seal}
use Rattle.def_memory.specs.declared.Granule.{Granule}
use Rattle.def_reach.specs.Sharing.{Joined, SharesC, Reaches}
use Rattle.def_machine.specs.Image.{Image, Region, Fixed, Globals, Shared, HeapRam, Stack, Bare, region, booted, address_of, root}
use Rattle.def_machine.specs.State.{State, Thread, Frame, Object, granule, thread, register}
use Rattle.def_machine.specs.Objects.{Each}
use Rattle.def_confined.specs.Capabilities.{Kept, IsReturnType}
use Rattle.def_confined.specs.Places.{Placed, InRegion, InFrames, HeapDomain, WithinRun, OwnStack, NoStack, outer}
use Rattle.def_confined.specs.Confined.{Confined, FramesHold, TopUnder, PassesTo, HasReturn, PostureFits, IsPcc, SavedKept}
use Rattle.def_confined.specs.Changes.{Fades, FrameFades, FramesFade, StateFades}
use Rattle.law_moves.proofs.Puts.{plain_kept}

-- what asks nothing of an untagged word is kept
pub faded_same : (P : Cap → Type 0) (i : Image) (old new : List Object) (c d : Cap) → Fades i old new c d → (d.tag ≡ false → P d) → P c → P d
faded_same P i old new c d (inl u) none h = none u
faded_same P i old new c d (inr e) none h = subst P (sym e.0) h

pub faded_kept : (i : Image) (old new : List Object) (c d : Cap) → Fades i old new c d → Kept i c → Kept i d
faded_kept i old new c d f h = faded_same (Kept i) i old new c d f (plain_kept i d) h

-- at a place whose domain and whose stack are as they were
pub faded_placed : (i : Image) (old new : List Object) (D E : ℕ → Type 0) (S T : Cap → Type 0) (c d : Cap) → Fades i old new c d → ((x : ℕ) → E x → D x) → (S c → T c) → (c.tag ≡ true → Placed i old D S c) → d.tag ≡ true → Placed i new E T d
faded_placed i old new D E S T c d (inl u) dom st h tagged = absurd (let clash : true ≡ false = sym tagged ∙ u in cc)
faded_placed i old new D E S T c d (inr e) dom st h tagged =
    let is : c.tag ≡ true = let P : Cap → Type 0 = λ z. z.tag ≡ true in subst P e.0 tagged in
    let p : Placed i old D S c = h is in
    let q : Placed i new E T c = record {
      rooted = p.rooted;
      object = e.1 is p.object;
      owner = λ owned x there. p.owner owned x (dom x there);
      own = λ is_stack. st (p.own is_stack);
      source = λ is_off x there. p.source is_off x (dom x there);
    } in
    subst (λ (z : Cap). Placed i new E T z) (sym e.0) q

within_faded : (i : Image) (old new : List Object) (fs hs : List Frame) (x : ℕ) → FramesFade i old new fs hs → WithinRun i fs x → WithinRun i hs x
within_faded i old new [] [] x f w = w
within_faded i old new [] (h ∷ hs) x f w = absurd f
within_faded i old new (g ∷ fs) [] x f w = absurd f
within_faded i old new (g ∷ []) (h ∷ []) x f w = let P : ℕ → Type 0 = λ n. x ≤ n in subst P (sym f.0.same_top) w
within_faded i old new (g ∷ []) (h ∷ k ∷ hs) x f w = absurd f.1
within_faded i old new (g ∷ l ∷ fs) (h ∷ []) x f w = absurd f.1
within_faded i old new (g ∷ l ∷ fs) (h ∷ k ∷ hs) x f w = elim w [
  | inl le ↦ inl (let P : ℕ → Type 0 = λ n. x ≤ n in subst P (sym f.0.same_top) le)
  | inr more ↦
      let P : ℕ → Type 0 = λ n. Joined i.entries n l.actor in
      let Q : ℕ → Type 0 = λ n. Joined i.entries h.actor n in
      inr (subst Q (sym f.1.0.actor) (subst P (sym f.0.actor) more.0), within_faded i old new (l ∷ fs) (k ∷ hs) x f.1 more.1)
]

pub faded_in : (i : Image) (old new : List Object) (t : ℕ) (fs hs : List Frame) (c d : Cap) → FramesFade i old new fs hs → Fades i old new c d → InFrames i old t fs c → InFrames i new t hs d
faded_in i old new t [] [] c d f e h = faded_same (λ z. z.tag ≡ false) i old new c d e (λ u. u) h
faded_in i old new t [] (k ∷ hs) c d f e h = absurd f
faded_in i old new t (g ∷ fs) [] c d f e h = absurd f
faded_in i old new t (g ∷ fs) (k ∷ hs) c d f e h = faded_placed i old new (λ x. x ≡ g.actor) (λ x. x ≡ k.actor) (OwnStack i t (g ∷ fs)) (OwnStack i t (k ∷ hs)) c d e
    (λ x there. there ∙ f.0.actor)
    (λ own. (own.0, within_faded i old new (g ∷ fs) (k ∷ hs) _ f own.1))
    h

outer_faded : (i : Image) (old new : List Object) (fs hs : List Frame) (x : ℕ) → FramesFade i old new fs hs → FramesFade i old new (outer fs x) (outer hs x)
outer_faded i old new [] [] x f = tt
outer_faded i old new [] (k ∷ hs) x f = absurd f
outer_faded i old new (g ∷ fs) [] x f = absurd f
outer_faded i old new (g ∷ fs) (k ∷ hs) x f =
    let same : nat_lt x k.top ≡ nat_lt x g.top = ap (λ n. nat_lt x n) f.0.same_top in
    elim (lt_tells x g.top) [
      | inl e ↦ rw (same, e.0) f
      | inr e ↦ rw (same, e.0) (outer_faded i old new fs hs x f.1)
    ]

under_faded : (i : Image) (old new : List Object) (g k : Frame) (fs hs : List Frame) → FrameFades i old new g k → FramesFade i old new fs hs → TopUnder g.top fs → TopUnder k.top hs
under_faded i old new g k [] [] e f h = tt
under_faded i old new g k [] (m ∷ hs) e f h = absurd f
under_faded i old new g k (l ∷ fs) [] e f h = absurd f
under_faded i old new g k (l ∷ fs) (m ∷ hs) e f h = omega (arith, h, e.same_top, f.0.same_top)

passes_faded : (i : Image) (old new : List Object) (g k : Frame) (fs hs : List Frame) → FrameFades i old new g k → FramesFade i old new fs hs → PassesTo i g fs → PassesTo i k hs
passes_faded i old new g k [] [] e f h = tt
passes_faded i old new g k [] (m ∷ hs) e f h = absurd f
passes_faded i old new g k (l ∷ fs) [] e f h = absurd f
passes_faded i old new g k (l ∷ fs) (m ∷ hs) e f h = λ passes.
    let P : ℕ → Type 0 = λ n. (root i n).passes ≡ true in
    let Q : ℕ → Type 0 = λ n. Joined i.entries n l.actor in
    let R : ℕ → Type 0 = λ n. Joined i.entries k.actor n in
    subst R (sym f.0.actor) (subst Q (sym e.actor) (h (subst P e.export passes)))

returns_faded : (i : Image) (old new : List Object) (t : ℕ) (g k : Frame) (fs hs : List Frame) → FrameFades i old new g k → FramesFade i old new fs hs → InFrames i old t fs g.c1 → HasReturn g fs → HasReturn k hs
returns_faded i old new t g k [] [] e f c h = tt
returns_faded i old new t g k [] (m ∷ hs) e f c h = absurd f
returns_faded i old new t g k (l ∷ fs) [] e f c h = absurd f
returns_faded i old new t g k (l ∷ fs) (m ∷ hs) e f c h =
    let same : k.c1 ≡ g.c1 = e.returns h.0 h.1 (c h.0).rooted in
    let P : Cap → Type 0 = λ z. (z.tag ≡ true) × IsReturnType (cap_seal z) in
    subst P (sym same) h

pub frames_faded : (i : Image) (old new : List Object) (t : ℕ) (fs hs : List Frame) → FramesFade i old new fs hs → FramesHold i old t fs → FramesHold i new t hs
frames_faded i old new t [] [] f h = tt
frames_faded i old new t [] (k ∷ hs) f h = absurd f
frames_faded i old new t (g ∷ fs) [] f h = absurd f
frames_faded i old new t (g ∷ fs) (k ∷ hs) f h =
    let e = f.0 in
    let top_is : k.top ≡ g.top = f.0.same_top in (
      record {
        stack = h.0.stack;
        even = ap (λ n. n % 16) top_is ∙ h.0.even;
        low = omega (arith, h.0.low, top_is);
        high = omega (arith, h.0.high, top_is);
        under = under_faded i old new g k fs hs f.0 f.1 h.0.under;
        passes = passes_faded i old new g k fs hs f.0 f.1 h.0.passes;
        returns = returns_faded i old new t g k fs hs f.0 f.1 h.0.c1 h.0.returns;
        c1 = faded_in i old new t fs hs g.c1 k.c1 f.1 f.0.c1 h.0.c1;
        c2 = faded_in i old new t fs hs g.c2 k.c2 f.1 f.0.c2 h.0.c2;
        c3 = faded_in i old new t fs hs g.c3 k.c3 f.1 f.0.c3 h.0.c3;
        c8 = faded_in i old new t fs hs g.c8 k.c8 f.1 f.0.c8 h.0.c8;
        c9 = faded_in i old new t fs hs g.c9 k.c9 f.1 f.0.c9 h.0.c9;
      },
      frames_faded i old new t fs hs f.1 h.1,
    )

saved_faded : (i : Image) (old new : List Object) (fs hs : List Frame) → FramesFade i old new fs hs → Each (SavedKept i) fs → Each (SavedKept i) hs
saved_faded i old new [] [] f h = tt
saved_faded i old new [] (k ∷ hs) f h = absurd f
saved_faded i old new (g ∷ fs) [] f h = absurd f
saved_faded i old new (g ∷ fs) (k ∷ hs) f h = (
  record {
    c1 = faded_kept i old new g.c1 k.c1 f.0.c1 h.0.c1;
    c2 = faded_kept i old new g.c2 k.c2 f.0.c2 h.0.c2;
    c3 = faded_kept i old new g.c3 k.c3 f.0.c3 h.0.c3;
    c8 = faded_kept i old new g.c8 k.c8 f.0.c8 h.0.c8;
    c9 = faded_kept i old new g.c9 k.c9 f.0.c9 h.0.c9;
  },
  saved_faded i old new fs hs f.1 h.1,
)

posture_faded : (i : Image) (old new : List Object) (t u : Thread) (fs hs : List Frame) → FramesFade i old new fs hs → u.posture ≡ t.posture → PostureFits i t fs → PostureFits i u hs
posture_faded i old new t u [] [] f e h = tt
posture_faded i old new t u [] (k ∷ hs) f e h = absurd f
posture_faded i old new t u (g ∷ fs) [] f e h = absurd f
posture_faded i old new t u (g ∷ fs) (k ∷ hs) f e h = λ off.
    let P : Posture → Type 0 = λ p. p.off ≡ true → ((root i p.source).disabled ≡ true) × Reaches i.entries (root i p.source).owner g.actor in
    let at : ((root i u.posture.source).disabled ≡ true) × Reaches i.entries (root i u.posture.source).owner g.actor = subst P (sym e) h off in
    let Q : ℕ → Type 0 = λ n. Reaches i.entries (root i u.posture.source).owner n in
    (at.0, subst Q (sym f.0.actor) at.1)

region_faded : (i : Image) (s new : State) (k : ℕ) (r : Region) (g h : Granule) → region i k ≡ r → StateFades i s new → Fades i s.objects new.objects g.cap h.cap
    → (region i k ≡ Fixed → g.cap ≡ (booted i k).cap → h.cap ≡ g.cap)
    → (h.cap.tag ≡ true → (d : ℕ) → (HeapDomain i s.objects (address_of i k) d → HeapDomain i new.objects (address_of i k) d) × (HeapDomain i new.objects (address_of i k) d → HeapDomain i s.objects (address_of i k) d))
    → InRegion i s k r g → InRegion i new k r h
region_faded i s new k Fixed g h is f e fixed dom p = fixed is p ∙ p
region_faded i s new k (Globals o) g h is f e fixed dom p = faded_placed i s.objects new.objects (λ d. d ≡ o) (λ d. d ≡ o) NoStack NoStack g.cap h.cap e (λ x there. there) (λ none. none) p
region_faded i s new k (Shared m) g h is f e fixed dom p = λ tagged. (
  faded_same (λ z. z.tag ≡ true → (d : ℕ) × SharesC i.entries m d) i s.objects new.objects g.cap h.cap e (λ u t. absurd (let clash : true ≡ false = sym t ∙ u in cc)) (λ t. (p t).0) tagged,
  faded_placed i s.objects new.objects (SharesC i.entries m) (SharesC i.entries m) NoStack NoStack g.cap h.cap e (λ x there. there) (λ none. none) (λ t. (p t).1) tagged,
)
region_faded i s new k HeapRam g h is f e fixed dom p = λ tagged.
    let there : (d : ℕ) × HeapDomain i s.objects (address_of i k) d = faded_same (λ z. z.tag ≡ true → (d : ℕ) × HeapDomain i s.objects (address_of i k) d) i s.objects new.objects g.cap h.cap e (λ u t. absurd (let clash : true ≡ false = sym t ∙ u in cc)) (λ t. (p t).0) tagged in (
      (there.0, (dom tagged there.0).0 there.1),
      faded_placed i s.objects new.objects (HeapDomain i s.objects (address_of i k)) (HeapDomain i new.objects (address_of i k)) NoStack NoStack g.cap h.cap e (λ x here. (dom tagged x).1 here) (λ none. none) (λ t. (p t).1) tagged,
    )
region_faded i s new k (Stack t) g h is f e fixed dom p = faded_in i s.objects new.objects t (outer (thread s t).frames (address_of i k)) (outer (thread new t).frames (address_of i k)) g.cap h.cap
    (outer_faded i s.objects new.objects (thread s t).frames (thread new t).frames (address_of i k) (f.threads t).frames) e p
region_faded i s new k Bare g h is f e fixed dom p = faded_same (λ z. z.tag ≡ false) i s.objects new.objects g.cap h.cap e (λ u. u) p

-- capabilities stay or lose their tag, anywhere, while objects of the heap change
pub faded_confined : (i : Image) (s new : State) → Confined i s → StateFades i s new → Confined i new
faded_confined i s new h f = record {
  granules = λ k. region_faded i s new k (region i k) (granule s k) (granule new k) refl f (f.caps k) (f.fixed k) (f.domains k) (h.granules k);
  pcc = λ t. faded_in i s.objects new.objects t (thread s t).frames (thread new t).frames (thread s t).pcc (thread new t).pcc (f.threads t).frames (f.threads t).pcc (h.pcc t);
  registers = λ t n. faded_in i s.objects new.objects t (thread s t).frames (thread new t).frames (register (thread s t) n) (register (thread new t) n) (f.threads t).frames ((f.threads t).registers n) (h.registers t n);
  frames = λ t. frames_faded i s.objects new.objects t (thread s t).frames (thread new t).frames (f.threads t).frames (h.frames t);
  postures = λ t. posture_faded i s.objects new.objects (thread s t) (thread new t) (thread s t).frames (thread new t).frames (f.threads t).frames (f.threads t).posture (h.postures t);
  runs = λ t. faded_same (λ z. z.tag ≡ true → IsPcc i z) i s.objects new.objects (thread s t).pcc (thread new t).pcc (f.threads t).pcc (λ u tagged. absurd (let clash : true ≡ false = sym tagged ∙ u in cc)) (h.runs t);
  kept = record {
    granules = λ k. faded_kept i s.objects new.objects (granule s k).cap (granule new k).cap (f.caps k) (h.kept.granules k);
    registers = λ t n. faded_kept i s.objects new.objects (register (thread s t) n) (register (thread new t) n) ((f.threads t).registers n) (h.kept.registers t n);
    frames = λ t. saved_faded i s.objects new.objects (thread s t).frames (thread new t).frames (f.threads t).frames (h.kept.frames t);
  };
  live = f.live;
  apart = f.apart;
  numbered = f.numbered;
  fits = f.fits;
  marks = f.marks;
  limits = f.limits;
  size = rw f.size h.size;
}
