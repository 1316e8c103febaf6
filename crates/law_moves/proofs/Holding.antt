-- Every heap capability is of an object that is live or quarantined.
use Rattle.std.proofs.Common.{ℕ, ◌≡◌, true, false, List, [], ◌∷◌, refl, sym, ap, ◌∙◌}
use Rattle.def_words.specs.declared.Cap.{Cap}
use Rattle.def_memory.specs.declared.Granule.{Granule}
use Rattle.def_machine.specs.Image.{Image, Region, Fixed, Globals, Shared, HeapRam, Stack, Bare, region, address_of}
use Rattle.def_machine.specs.State.{State, Frame, Object, thread, register, granule}
use Rattle.def_machine.specs.Objects.{Each}
use Rattle.def_confined.specs.Capabilities.{heap_cap}
use Rattle.def_confined.specs.Places.{InRegion, HasObject, outer}
use Rattle.def_confined.specs.Confined.{Confined, FramesHold}
use Rattle.def_confined.specs.Saved.{SavedHave}
use Rattle.def_confined.specs.Partitioned.{Partitioned}
use Rattle.law_moves.proofs.Filters.{in_object}

in_region_object : (i : Image) (s : State) (k : ℕ) (r : Region) (g : Granule) → Partitioned i → region i k ≡ r → InRegion i s k r g → g.cap.tag ≡ true → HasObject i s.objects g.cap
in_region_object i s k Fixed g p is h tagged = λ heap.
    let none = p.boot_no_heap k is (sym (ap (λ (c : Cap). c.tag) h) ∙ tagged) in
    absurd (let clash : true ≡ false = sym heap ∙ ap (heap_cap i) h ∙ none in cc)
in_region_object i s k (Globals o) g p is h tagged = (h tagged).object
in_region_object i s k (Shared m) g p is h tagged = (h tagged).1.object
in_region_object i s k HeapRam g p is h tagged = (h tagged).1.object
in_region_object i s k (Stack t) g p is h tagged = in_object i s.objects t (outer (thread s t).frames (address_of i k)) g.cap h tagged
in_region_object i s k Bare g p is h tagged = absurd (let clash : true ≡ false = sym tagged ∙ h in cc)

pub granule_object : (i : Image) (s : State) (k : ℕ) → Partitioned i → Confined i s → (granule s k).cap.tag ≡ true → HasObject i s.objects (granule s k).cap
granule_object i s k p h = in_region_object i s k (region i k) (granule s k) p refl (h.granules k)

pub register_object : (i : Image) (s : State) (t n : ℕ) → Confined i s → (register (thread s t) n).tag ≡ true → HasObject i s.objects (register (thread s t) n)
register_object i s t n h = in_object i s.objects t (thread s t).frames (register (thread s t) n) (h.registers t n)

pub pcc_object : (i : Image) (s : State) (t : ℕ) → Confined i s → (thread s t).pcc.tag ≡ true → HasObject i s.objects (thread s t).pcc
pcc_object i s t h = in_object i s.objects t (thread s t).frames (thread s t).pcc (h.pcc t)

saved_objects : (i : Image) (objects : List Object) (t : ℕ) (fs : List Frame) → FramesHold i objects t fs → Each (SavedHave i objects) fs
saved_objects i objects t [] h = tt
saved_objects i objects t (f ∷ fs) h = (
  record {
    c1 = in_object i objects t fs f.c1 h.0.c1;
    c2 = in_object i objects t fs f.c2 h.0.c2;
    c3 = in_object i objects t fs f.c3 h.0.c3;
    c8 = in_object i objects t fs f.c8 h.0.c8;
    c9 = in_object i objects t fs f.c9 h.0.c9;
  },
  saved_objects i objects t fs h.1,
)

pub frames_object : (i : Image) (s : State) (t : ℕ) → Confined i s → Each (SavedHave i s.objects) (thread s t).frames
frames_object i s t h = saved_objects i s.objects t (thread s t).frames (h.frames t)
