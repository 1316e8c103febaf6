-- A granule is loaded through a register of the running thread.
use Rattle.std.proofs.Common.{ℕ, ◌≡◌, ◌%◌, ◌≤◌, ◌<◌, inl, inr, true, false, List, ◌∷◌, Some, refl, sym, ap, ◌∙◌, subst, arith}
use Rattle.law_lists.proofs.Tests.{bool_tells}
use Rattle.def_words.specs.declared.Cap.{Cap}
use Rattle.def_words.specs.Authority.{cap_base, cap_top}
use Rattle.def_words.specs.Permissions.{has, load_data, memory_capability}
use Rattle.def_memory.specs.declared.Granule.{Granule}
use Rattle.ct_entry.specs.declared.rows.Kind.TheVariants as kind
use Rattle.def_reach.specs.Roots.{Listing, is_stack, is_owned}
use Rattle.def_reach.specs.Sharing.{Joined, SharesC, Reaches}
use Rattle.def_machine.specs.Image.{Image, Region, Fixed, Globals, Shared, HeapRam, Stack, Bare, root, region, booted, granule_of, address_of, stack_entry}
use Rattle.def_machine.specs.State.{State, Frame, Object, thread, register, granule}
use Rattle.def_machine.specs.Memory.{filtered}
use Rattle.def_confined.specs.Capabilities.{heap_cap}
use Rattle.def_confined.specs.Changes.{Puts}
use Rattle.def_confined.specs.Places.{Placed, InFrames, InRegion, OwnStack, NoStack, HeapDomain, outer}
use Rattle.def_confined.specs.Confined.{Confined}
use Rattle.def_confined.specs.Partitioned.{Partitioned, Loads}
use Rattle.def_confined.specs.Made.{Derived}
use Rattle.law_reach.proofs.Joins.{reaches_on}
use Rattle.law_moves.proofs.Places.{carry, tops_back, plain_in}
use Rattle.law_moves.proofs.Derives.{kept_bound, derived_in, derived_kept}
use Rattle.law_moves.proofs.Filters.{filter_in, filter_kept, filter_live, in_object}
use Rattle.law_moves.proofs.Authorities.{Reaching, owner_joined, whole_granule, domain_joined, holder, reaching}

-- from one compartment of a domain to one that it is joined to
given_from : (i : Image) (objects : List Object) (D : ℕ → Type 0) (S : Cap → Type 0) (f d : ℕ) (c : Cap) → D d → Joined i.entries d f → (S c → ⊥) → (T : Cap → Type 0) → Placed i objects D S c → Placed i objects (λ y. y ≡ f) T c
given_from i objects D S f d c there joined none T h = record {
  rooted = h.rooted;
  object = h.object;
  owner = λ owned y e. let P : ℕ → Type 0 = λ n. Reaches i.entries (root i c.shadow.root).owner n in subst P (sym e) (reaches_on i.entries (root i c.shadow.root).owner d f (h.owner owned d there) joined);
  own = λ stack. absurd (none (h.own stack));
  source = λ is y e. let P : ℕ → Type 0 = λ n. Reaches i.entries (root i c.shadow.source).owner n in subst P (sym e) (reaches_on i.entries (root i c.shadow.source).owner d f (h.source is d there) joined);
}

pub record Loading (i : Image) (s : State) (t : ℕ) (f : Frame) (gs : List Frame) (by : Cap) (x : ℕ) : Type 0 where
  pub to : Reaching i s t f gs by x
  pub loads : has by load_data ≡ true

from_heap : (i : Image) (s : State) (t : ℕ) (f : Frame) (gs : List Frame) (by : Cap) (x : ℕ) (g : Granule) → Loading i s t f gs by x → heap_cap i by ≡ true → InRegion i s (granule_of i x) HeapRam g → InFrames i s.objects t (f ∷ gs) g.cap
from_heap i s t f gs by x g w heap h = λ tagged.
    let at : address_of i (granule_of i x) ≡ x = whole_granule i x w.to.parts w.to.inside w.to.aligned in
    let some : cap_base by < cap_top by = omega (arith, w.to.low, w.to.high) in
    let P : ℕ → Type 0 = λ n. ((d : ℕ) × HeapDomain i s.objects n d) × Placed i s.objects (HeapDomain i s.objects n) NoStack g.cap in
    let here : ((d : ℕ) × HeapDomain i s.objects x d) × Placed i s.objects (HeapDomain i s.objects x) NoStack g.cap = subst P at (h tagged) in
    given_from i s.objects (HeapDomain i s.objects x) NoStack f.actor here.0.0 g.cap here.0.1
    (domain_joined i s.objects f.actor x here.0.0 (OwnStack i t (f ∷ gs)) by w.to.parts w.to.held.apart heap w.to.low w.to.high (w.to.live heap some) w.to.authority here.0.1)
    (λ none. none) (OwnStack i t (f ∷ gs)) here.1

from_region : (i : Image) (s : State) (t : ℕ) (f : Frame) (gs : List Frame) (by : Cap) (x : ℕ) (r : Region) (g : Granule) → Loading i s t f gs by x → region i (granule_of i x) ≡ r → Loads i by.shadow.root (booted i (granule_of i x)).cap r → InRegion i s (granule_of i x) r g → InFrames i s.objects t (f ∷ gs) g.cap
from_region i s t f gs by x Fixed g w is l h = λ tagged.
    let boot : (booted i (granule_of i x)).cap.tag ≡ true = sym (ap (λ (c : Cap). c.tag) h) ∙ tagged in
    let held = l.1 boot in
    let reach : Reaches i.entries (root i by.shadow.root).owner f.actor = w.to.authority.owner l.0 f.actor refl in
    let placed : Placed i s.objects (λ d. d ≡ f.actor) (OwnStack i t (f ∷ gs)) (booted i (granule_of i x)).cap = record {
      rooted = w.to.parts.boot_rooted (granule_of i x) is boot;
      object = λ heap. absurd (let clash : true ≡ false = sym heap ∙ held.no_heap in cc);
      owner = λ owned y e. let P : ℕ → Type 0 = λ n. Reaches i.entries (root i (booted i (granule_of i x)).cap.shadow.root).owner n in subst P (sym e) (held.owner owned f.actor reach);
      own = λ stack. absurd (let clash : true ≡ false = sym stack ∙ held.no_stack in cc);
      source = λ four. absurd (held.no_source four);
    } in
    subst (λ (c : Cap). Placed i s.objects (λ d. d ≡ f.actor) (OwnStack i t (f ∷ gs)) c) (sym h) placed
from_region i s t f gs by x (Globals o) g w is l h = λ tagged.
    given_from i s.objects (λ d. d ≡ o) NoStack f.actor o g.cap refl
    (owner_joined i s.objects f.actor o (OwnStack i t (f ∷ gs)) by w.to.parts w.to.authority (ap is_owned l.0) l.1)
    (λ none. none) (OwnStack i t (f ∷ gs)) (h tagged)
from_region i s t f gs by x (Shared m) g w is l h = λ tagged.
    given_from i s.objects (SharesC i.entries m) NoStack f.actor l.1.0 g.cap l.1.2
    (owner_joined i s.objects f.actor l.1.0 (OwnStack i t (f ∷ gs)) by w.to.parts w.to.authority (ap is_owned l.0) l.1.1)
    (λ none. none) (OwnStack i t (f ∷ gs)) (h tagged).1
from_region i s t f gs by x HeapRam g w is l h = absurd l
from_region i s t f gs by x (Stack u) g w is l h =
    let own : OwnStack i t (f ∷ gs) by = w.to.authority.own (ap is_stack l.0) in
    let at : address_of i (granule_of i x) ≡ x = whole_granule i x w.to.parts w.to.inside w.to.aligned in
    let kind_is : (root i (stack_entry i t)).origin ≡ Listing kind.Stack = let P : ℕ → Type 0 = λ n. (root i n).origin ≡ Listing kind.Stack in subst P own.0 l.0 in
    let same : t ≡ u = w.to.parts.stacks_differ t u kind_is (sym own.0 ∙ l.1) in
    let P : ℕ → Type 0 = λ n. InFrames i s.objects n (outer (thread s n).frames (address_of i (granule_of i x))) g.cap in
    let Q : List Frame → Type 0 = λ fs. InFrames i s.objects t (outer fs (address_of i (granule_of i x))) g.cap in
    let R : ℕ → Type 0 = λ n. InFrames i s.objects t (outer (f ∷ gs) n) g.cap in
    let there : InFrames i s.objects t (outer (f ∷ gs) x) g.cap = subst R at (subst Q w.to.frames (subst P (sym same) h)) in
    carry i s.objects t (outer (f ∷ gs) x) (f ∷ gs) g.cap (tops_back i (f ∷ gs) (cap_top by) x own.1 w.to.high) there
from_region i s t f gs by x Bare g w is l h = λ tagged. absurd (let clash : true ≡ false = sym tagged ∙ h in cc)

load_in : (i : Image) (s : State) (t : ℕ) (f : Frame) (gs : List Frame) (by : Cap) (x : ℕ) → Loading i s t f gs by x → InFrames i s.objects t (f ∷ gs) (granule s (granule_of i x)).cap
load_in i s t f gs by x w = elim (bool_tells (heap_cap i by)) [
  | inl heap ↦
      let place = w.to.authority.rooted.heap heap in
      let is : region i (granule_of i x) ≡ HeapRam = (w.to.parts.heap x (omega (arith, place, w.to.low)) (omega (arith, place, w.to.high))).1 in
      let P : Region → Type 0 = λ r. InRegion i s (granule_of i x) r (granule s (granule_of i x)) in
      from_heap i s t f gs by x (granule s (granule_of i x)) w heap (subst P is (w.to.held.granules (granule_of i x)))
  | inr other ↦
      let range = w.to.authority.rooted.range other in
      from_region i s t f gs by x (region i (granule_of i x)) (granule s (granule_of i x)) w refl
      (w.to.parts.loads by.shadow.root x w.to.inside (w.to.authority.rooted.rights other load_data w.loads) (w.to.authority.rooted.rights other memory_capability w.to.carries) (omega (arith, range, w.to.low)) (omega (arith, range, w.to.high)))
      (w.to.held.granules (granule_of i x))
]

-- what a register of the running thread gets by such a load may stand there
pub load_stands : (i : Image) (s : State) (t at x : ℕ) (d : Cap) → Partitioned i → Confined i s → s.running ≡ Some t → i.ram ≤ x → (register (thread s t) at).tag ≡ true → has (register (thread s t) at) load_data ≡ true
    → cap_base (register (thread s t) at) ≤ x → x < cap_top (register (thread s t) at) → x % 8 ≡ 0 → Derived (granule s (granule_of i x)).cap d → (d.tag ≡ true → has (register (thread s t) at) memory_capability ≡ true)
    → Puts i s t (filtered i s d)
load_stands i s t at x d p h runs inside tagged loads low high aligned derived carries = elim (bool_tells d.tag) [
  | inl there ↦
      let w = holder i s t at h tagged in
      let found : InFrames i s.objects t (w.frame ∷ w.under) (granule s (granule_of i x)).cap = load_in i s t w.frame w.under (register (thread s t) at) x
      (record { to = reaching i s t at x w p h runs tagged (carries there) inside low high aligned; loads = loads }) in
      let mine : InFrames i s.objects t (thread s t).frames (granule s (granule_of i x)).cap = subst (λ (fs : List Frame). InFrames i s.objects t fs (granule s (granule_of i x)).cap) (sym w.frames) found in
      let bound = λ (is : (granule s (granule_of i x)).cap.tag ≡ true). kept_bound i (granule s (granule_of i x)).cap is (h.kept.granules (granule_of i x)) in
      let placed : InFrames i s.objects t (thread s t).frames d = derived_in i s.objects t (thread s t).frames (granule s (granule_of i x)).cap d bound derived mine in
      record {
        there = filter_in i s s.objects t (thread s t).frames d placed;
        kept = filter_kept i s d (derived_kept i (granule s (granule_of i x)).cap d bound derived (h.kept.granules (granule_of i x)));
        live = filter_live i s d p h (in_object i s.objects t (thread s t).frames d placed);
      }
  | inr none ↦
      let placed : InFrames i s.objects t (thread s t).frames d = plain_in i s.objects t (thread s t).frames d none in
      record {
        there = filter_in i s s.objects t (thread s t).frames d placed;
        kept = filter_kept i s d (λ is. absurd (let clash : true ≡ false = sym is ∙ none in cc));
        live = filter_live i s d p h (in_object i s.objects t (thread s t).frames d placed);
      }
]
