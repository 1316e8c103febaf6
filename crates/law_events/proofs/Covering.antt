-- Nothing covers a new object, and where it is nothing is tagged.
use Rattle.std.proofs.Common.{ℕ, ◌≡◌, ◌+◌, ◌≤◌, ◌<◌, ◌⊎◌, inl, inr, true, false, List, [], ◌∷◌, refl, sym, ap, ◌∙◌, subst, arith}
use Rattle.law_lists.proofs.Tests.{bool_tells}
use Rattle.def_words.specs.declared.Cap.{Cap}
use Rattle.def_words.specs.Authority.{cap_base, cap_top}
use Rattle.def_memory.specs.declared.Granule.{Granule}
use Rattle.def_machine.specs.Image.{Image, Region, Fixed, Globals, Shared, HeapRam, Stack, Bare, region, address_of}
use Rattle.def_machine.specs.State.{State, Frame, Object, thread, register, granule}
use Rattle.def_machine.specs.Objects.{Each}
use Rattle.def_confined.specs.Capabilities.{Rooted, heap_cap}
use Rattle.def_confined.specs.Places.{InRegion, HasObject, Covers, LiveAt, outer}
use Rattle.def_confined.specs.Confined.{Confined, FramesHold, Apart}
use Rattle.def_confined.specs.Partitioned.{Partitioned}
use Rattle.def_confined.specs.Changes.{NewObject}
use Rattle.law_moves.proofs.Rows.{each_take}
use Rattle.law_moves.proofs.Filters.{in_object}
use Rattle.law_moves.proofs.JumpsMoves.{in_rooted}
use Rattle.law_moves.proofs.Allocates.{taken_there}
use Rattle.law_moves.proofs.Holding.{granule_object, register_object, pcc_object}
use Rattle.def_confined.specs.Facts.{RootsAway}
use Rattle.def_safety.specs.Fresh.{Misses, SavedMiss}

misses : (i : Image) (s : State) (r : Object) (c : Cap) → RootsAway i → NewObject i s r → (c.tag ≡ true → Rooted i c × HasObject i s.objects c) → Misses r c
misses i s r c away n h tagged some = elim (bool_tells (heap_cap i c)) [
  | inl heap ↦ each_take (Apart r) (Covers c) ((cap_top c ≤ r.base) ⊎ (r.base + r.length ≤ cap_base c)) s.objects
      (λ q apart k. elim apart.1 [ inl a ↦ inr (omega (arith, a, k.low)) | inr a ↦ inl (omega (arith, a, k.high)) ])
      n.apart ((h tagged).1 heap some)
  | inr other ↦
      let range = (h tagged).0.range other in
      elim (away c.shadow.root (h tagged).0.from) [
        | inl below ↦ inl (omega (arith, below, range.1, n.fits.low))
        | inr above ↦ inr (omega (arith, above, range.0, n.fits.high))
      ]
]

region_rooted : (i : Image) (s : State) (k : ℕ) (r : Region) (g : Granule) → Partitioned i → region i k ≡ r → InRegion i s k r g → g.cap.tag ≡ true → Rooted i g.cap
region_rooted i s k Fixed g p is h tagged =
    let P : Cap → Type 0 = λ c. Rooted i c in
    subst P (sym h) (p.boot_rooted k is (sym (ap (λ (c : Cap). c.tag) h) ∙ tagged))
region_rooted i s k (Globals o) g p is h tagged = (h tagged).rooted
region_rooted i s k (Shared m) g p is h tagged = (h tagged).1.rooted
region_rooted i s k HeapRam g p is h tagged = (h tagged).1.rooted
region_rooted i s k (Stack t) g p is h tagged = in_rooted i s.objects t (outer (thread s t).frames (address_of i k)) g.cap h tagged
region_rooted i s k Bare g p is h tagged = absurd (let clash : true ≡ false = sym tagged ∙ h in cc)

pub granule_misses : (i : Image) (s : State) (r : Object) (k : ℕ) → Partitioned i → RootsAway i → Confined i s → NewObject i s r → Misses r (granule s k).cap
granule_misses i s r k p away h n = misses i s r (granule s k).cap away n (λ tagged. (region_rooted i s k (region i k) (granule s k) p refl (h.granules k) tagged, granule_object i s k p h tagged))

pub register_misses : (i : Image) (s : State) (r : Object) (t m : ℕ) → RootsAway i → Confined i s → NewObject i s r → Misses r (register (thread s t) m)
register_misses i s r t m away h n = misses i s r (register (thread s t) m) away n (λ tagged. (in_rooted i s.objects t (thread s t).frames (register (thread s t) m) (h.registers t m) tagged, register_object i s t m h tagged))

pub pcc_misses : (i : Image) (s : State) (r : Object) (t : ℕ) → RootsAway i → Confined i s → NewObject i s r → Misses r (thread s t).pcc
pcc_misses i s r t away h n = misses i s r (thread s t).pcc away n (λ tagged. (in_rooted i s.objects t (thread s t).frames (thread s t).pcc (h.pcc t) tagged, pcc_object i s t h tagged))

saved_miss : (i : Image) (s : State) (r : Object) (t : ℕ) (fs : List Frame) → RootsAway i → NewObject i s r → FramesHold i s.objects t fs → Each (SavedMiss r) fs
saved_miss i s r t [] away n h = tt
saved_miss i s r t (f ∷ fs) away n h = (
  record {
    c1 = misses i s r f.c1 away n (λ tagged. (in_rooted i s.objects t fs f.c1 h.0.c1 tagged, in_object i s.objects t fs f.c1 h.0.c1 tagged));
    c2 = misses i s r f.c2 away n (λ tagged. (in_rooted i s.objects t fs f.c2 h.0.c2 tagged, in_object i s.objects t fs f.c2 h.0.c2 tagged));
    c3 = misses i s r f.c3 away n (λ tagged. (in_rooted i s.objects t fs f.c3 h.0.c3 tagged, in_object i s.objects t fs f.c3 h.0.c3 tagged));
    c8 = misses i s r f.c8 away n (λ tagged. (in_rooted i s.objects t fs f.c8 h.0.c8 tagged, in_object i s.objects t fs f.c8 h.0.c8 tagged));
    c9 = misses i s r f.c9 away n (λ tagged. (in_rooted i s.objects t fs f.c9 h.0.c9 tagged, in_object i s.objects t fs f.c9 h.0.c9 tagged));
  },
  saved_miss i s r t fs away n h.1,
)

pub frames_miss : (i : Image) (s : State) (r : Object) (t : ℕ) → RootsAway i → Confined i s → NewObject i s r → Each (SavedMiss r) (thread s t).frames
frames_miss i s r t away h n = saved_miss i s r t (thread s t).frames away n (h.frames t)

-- where a new object is, nothing is tagged
pub untagged_there : (i : Image) (s : State) (r : Object) (k : ℕ) → Partitioned i → Confined i s → NewObject i s r → r.base ≤ address_of i k → address_of i k < r.base + r.length → (granule s k).cap.tag ≡ false
untagged_there i s r k p h n low high = elim (bool_tells (granule s k).cap.tag) [
  | inl tagged ↦
      let taken = taken_there i s k p h (omega (arith, low, n.fits.low)) (omega (arith, high, n.fits.high)) tagged in
      absurd (each_take (Apart r) (LiveAt i (address_of i k) taken.0) ⊥ s.objects
      (λ q apart at. elim apart.1 [ inl a ↦ omega (arith, a, low, high, at.1, at.2) | inr a ↦ omega (arith, a, low, high, at.1, at.2) ])
      n.apart taken.1)
  | inr none ↦ none
]
