-- Places and their domains.
use Rattle.std.proofs.Common.{ℕ, ◌≡◌, ◌≤◌, ◌<◌, inl, inr, true, false, List, [], ◌∷◌, refl, sym, ◌∙◌, subst, arith, zero, suc, ap, ◌&&◌, not, nat_eq}
use Rattle.law_lists.proofs.Tests.{lt_tells}
use Rattle.def_words.specs.declared.Cap.{Cap}
use Rattle.def_reach.specs.Sharing.{Joined}
use Rattle.def_machine.specs.Image.{Image, root}
use Rattle.def_machine.specs.State.{Frame, Object}
use Rattle.def_confined.specs.Capabilities.{stack_cap, heap_cap}
use Rattle.def_confined.specs.Places.{Placed, InFrames, WithinRun, OwnStack, outer}
use Rattle.def_confined.specs.Confined.{FramesHold}
use Rattle.law_reach.proofs.Joins.{joined_refl, joined_trans, joined_sym, reaches_on}
use Rattle.def_reach.specs.Roots.{Origin, is_quota}
use Rattle.def_machine.specs.Objects.{Each}
use Rattle.std.proofs.Math.ListN.{get_or}

-- an untagged word may stand in every place of a thread
pub plain_in : (i : Image) (objects : List Object) (t : ℕ) (fs : List Frame) (c : Cap) → c.tag ≡ false → InFrames i objects t fs c
plain_in i objects t [] c h = h
plain_in i objects t (f ∷ fs) c h = λ tagged. absurd (let clash : true ≡ false = sym tagged ∙ h in cc)

-- from a domain to one that it is joined to
pub given : (i : Image) (objects : List Object) (f : ℕ) (E : ℕ → Type 0) (S T : Cap → Type 0) (c : Cap) → ((d : ℕ) → E d → Joined i.entries f d) → (stack_cap i c ≡ true → S c → T c)
    → Placed i objects (λ d. d ≡ f) S c → Placed i objects E T c
given i objects f E S T c joins own p = record {
  rooted = p.rooted;
  object = p.object;
  owner = λ owned d there. reaches_on i.entries (root i c.shadow.root).owner f d (p.owner owned f refl) (joins d there);
  own = λ is. own is (p.own is);
  source = λ is d there. reaches_on i.entries (root i c.shadow.source).owner f d (p.source is f refl) (joins d there);
}

-- heads joined, and what lay below the run's top still does
abbrev pub Joins : Image → List Frame → List Frame → Type 0
Joins i [] gs = Unit {0}
Joins i (f ∷ fs) [] = ⊥
Joins i (f ∷ fs) (g ∷ gs) = Joined i.entries f.actor g.actor × ((x : ℕ) → WithinRun i (f ∷ fs) x → WithinRun i (g ∷ gs) x)

pub joins_refl : (i : Image) (fs : List Frame) → Joins i fs fs
joins_refl i [] = tt
joins_refl i (f ∷ fs) = (joined_refl i.entries f.actor, λ x h. h)

-- from frames to frames
pub carry : (i : Image) (objects : List Object) (t : ℕ) (fs gs : List Frame) (c : Cap) → Joins i fs gs → InFrames i objects t fs c → InFrames i objects t gs c
carry i objects t [] [] c j h = h
carry i objects t [] (g ∷ gs) c j h = λ tagged. absurd (let clash : true ≡ false = sym tagged ∙ h in cc)
carry i objects t (f ∷ fs) [] c j h = absurd j
carry i objects t (f ∷ fs) (g ∷ gs) c j h = λ tagged. given i objects f.actor (λ d. d ≡ g.actor) (OwnStack i t (f ∷ fs)) (OwnStack i t (g ∷ gs)) c
    (λ d e. let P : ℕ → Type 0 = λ n. Joined i.entries f.actor n in subst P (sym e) j.0)
    (λ is own. (own.0, j.1 _ own.1))
    (h tagged)

pub within_head : (i : Image) (g : Frame) (fs : List Frame) (x : ℕ) → x ≤ g.top → WithinRun i (g ∷ fs) x
within_head i g [] x h = h
within_head i g (k ∷ fs) x h = inl h

further : (i : Image) (f g : Frame) (fs hs : List Frame) → f.top ≤ g.top → Joined i.entries f.actor g.actor → Joins i (g ∷ fs) hs → Joins i (f ∷ g ∷ fs) hs
further i f g fs [] under j h = h
further i f g fs (k ∷ hs) under j h =
    (joined_trans i.entries f.actor g.actor k.actor j h.0, λ x w. elim w [ inl le ↦ h.1 x (within_head i g fs x (omega (arith, le, under))) | inr more ↦ h.1 x more.1 ])

-- a place below a stack capability's end is held by a frame of the run
pub outer_joins : (i : Image) (objects : List Object) (t : ℕ) (fs : List Frame) (x a : ℕ) → FramesHold i objects t fs → WithinRun i fs x → a < x → Joins i fs (outer fs a)
outer_joins i objects t [] x a hold w lt = absurd w
outer_joins i objects t (f ∷ []) x a hold w lt = elim (lt_tells a f.top) [ inl e ↦ rw e.0 (joins_refl i (f ∷ [])) | inr e ↦ absurd (omega (arith, e.1, w, lt)) ]
outer_joins i objects t (f ∷ g ∷ fs) x a hold w lt = elim (lt_tells a f.top) [
  | inl e ↦ rw e.0 (joins_refl i (f ∷ g ∷ fs))
  | inr e ↦ elim w [
    | inl le ↦ absurd (omega (arith, e.1, le, lt))
    | inr more ↦ rw e.0 (further i f g fs (outer (g ∷ fs) a) hold.0.under more.0 (outer_joins i objects t (g ∷ fs) x a hold.1 more.1 lt))
  ]
]

nearer : (i : Image) (f g : Frame) (fs hs : List Frame) → Joined i.entries f.actor g.actor → Joins i hs (g ∷ fs) → Joins i hs (f ∷ g ∷ fs)
nearer i f g fs [] j h = tt
nearer i f g fs (k ∷ hs) j h = (joined_trans i.entries k.actor g.actor f.actor h.0 (joined_sym i.entries f.actor g.actor j), λ x w. inr (j, h.1 x w))

-- and the other way: what such a place holds may come into a register
pub tops_back : (i : Image) (fs : List Frame) (x a : ℕ) → WithinRun i fs x → a < x → Joins i (outer fs a) fs
tops_back i [] x a w lt = absurd w
tops_back i (f ∷ []) x a w lt = elim (lt_tells a f.top) [ inl e ↦ rw e.0 (joins_refl i (f ∷ [])) | inr e ↦ absurd (omega (arith, e.1, w, lt)) ]
tops_back i (f ∷ g ∷ fs) x a w lt = elim (lt_tells a f.top) [
  | inl e ↦ rw e.0 (joins_refl i (f ∷ g ∷ fs))
  | inr e ↦ elim w [
    | inl le ↦ absurd (omega (arith, e.1, le, lt))
    | inr more ↦ rw e.0 (nearer i f g fs (outer (g ∷ fs) a) more.0 (tops_back i (g ∷ fs) x a more.1 lt))
  ]
]

-- what isn't of a quota isn't of the heap
pub no_heap_of : (i : Image) (c : Cap) (o : Origin) → (root i c.shadow.root).origin ≡ o → is_quota o ≡ false → heap_cap i c ≡ false
no_heap_of i c o is none = ap (λ b. b && not (nat_eq c.shadow.source 0)) (ap is_quota is ∙ none)

-- what holds of each of a list and of the default holds at each place
pub all_of : (P : Cap → Type 0) (xs : List Cap) (z : Cap) → P z → Each P xs → (n : ℕ) → P (get_or xs n z)
all_of P [] z none h n = none
all_of P (x ∷ xs) z none h zero = h.0
all_of P (x ∷ xs) z none h (suc n) = all_of P xs z none h.1 n
