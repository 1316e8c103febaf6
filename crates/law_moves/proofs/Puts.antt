-- One granule's capability changes.
use Rattle.std.proofs.Common.{ℕ, ◌≡◌, true, false, refl, sym, ◌∙◌, slice_set}
use Rattle.std.proofs.lemmas.List.{length-set}
use Rattle.law_lists.proofs.Sets.{after_set, after_set_at}
use Rattle.def_words.specs.declared.Cap.{Cap}
use Rattle.def_memory.specs.declared.Granule.{Granule}
use Rattle.def_memory.specs.Granules.{nothing}
use Rattle.def_machine.specs.Image.{Image, Region, Fixed, Globals, Shared, HeapRam, Stack, Bare, region, address_of}
use Rattle.def_machine.specs.State.{State, granule, thread}
use Rattle.def_confined.specs.Capabilities.{Kept}
use Rattle.def_confined.specs.Places.{InRegion, outer}
use Rattle.def_confined.specs.Confined.{Confined, MarksFit}
use Rattle.law_moves.proofs.Places.{plain_in}

-- an untagged word is a capability of no kind
pub plain_kept : (i : Image) (c : Cap) → c.tag ≡ false → Kept i c
plain_kept i c h = λ tagged. absurd (let clash : true ≡ false = sym tagged ∙ h in cc)

-- an untagged word may stand in every region that isn't as boot made it
pub plain_region : (i : Image) (s : State) (k : ℕ) (r : Region) (g : Granule) → (r ≡ Fixed → ⊥) → g.cap.tag ≡ false → InRegion i s k r g
plain_region i s k Fixed g n h = absurd (n refl)
plain_region i s k (Globals o) g n h = λ tagged. absurd (let clash : true ≡ false = sym tagged ∙ h in cc)
plain_region i s k (Shared m) g n h = λ tagged. absurd (let clash : true ≡ false = sym tagged ∙ h in cc)
plain_region i s k HeapRam g n h = λ tagged. absurd (let clash : true ≡ false = sym tagged ∙ h in cc)
plain_region i s k (Stack t) g n h = plain_in i s.objects t (outer (thread s t).frames (address_of i k)) g.cap h
plain_region i s k Bare g n h = h

-- one granule gets another capability that may stand there
pub put_confined : (i : Image) (s : State) (k : ℕ) (c : Cap) → Confined i s → InRegion i s k (region i k) (record { cap = c; mark = (granule s k).mark }) → Kept i c
    → Confined i (record s { granules = slice_set s.granules k (record { cap = c; mark = (granule s k).mark }) })
put_confined i s k c h there kept =
    let new : Granule = record { cap = c; mark = (granule s k).mark } in
    record {
      granules = λ j. after_set_at (λ n g. InRegion i s n (region i n) g) s.granules k j new nothing there (h.granules j);
      pcc = h.pcc;
      registers = h.registers;
      frames = h.frames;
      postures = h.postures;
      runs = h.runs;
      kept = record {
        granules = λ j. after_set (λ g. Kept i g.cap) s.granules k j new nothing kept (h.kept.granules j);
        registers = h.kept.registers;
        frames = h.kept.frames;
      };
      live = h.live;
      apart = h.apart;
      numbered = h.numbered;
      fits = h.fits;
      marks = λ j. after_set_at (λ n g. MarksFit i s.objects n g.mark) s.granules k j new nothing (h.marks k) (h.marks j);
      limits = h.limits;
      size = rw (length-set s.granules k new) h.size;
    }
