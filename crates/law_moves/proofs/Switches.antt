-- One thread changes whole, and its stack is zeroed from its base up to an address.
use Rattle.std.proofs.Common.{ℕ, ◌≡◌, ◌≤◌, ◌<◌, ◌⊎◌, inl, inr, true, false, List, Option, Some, refl, sym, ◌∙◌, subst, arith}
use Rattle.law_lists.proofs.Sets.{after_set, after_set_at, after_set_split}
use Rattle.def_words.specs.declared.Cap.{Cap}
use Rattle.def_memory.specs.declared.Granule.{Granule}
use Rattle.def_memory.specs.Granules.{plain, blank}
use Rattle.law_granules.proofs.Lists.{zeroed_at, zeroed_length}
use Rattle.def_machine.specs.Image.{Image, Region, Fixed, Globals, Shared, HeapRam, Stack, Bare, region, address_of, stack_base}
use Rattle.def_machine.specs.State.{State, Thread, Frame, granule, thread, register, nobody}
use Rattle.def_machine.specs.Frames.{switched}
use Rattle.def_machine.specs.Objects.{Each}
use Rattle.def_confined.specs.Capabilities.{Kept}
use Rattle.def_confined.specs.Places.{InRegion, InFrames, HasLive, outer}
use Rattle.def_confined.specs.Confined.{Confined, FramesHold, PostureFits, IsPcc, SavedKept, MarksFit}
use Rattle.def_confined.specs.Partitioned.{Partitioned}
use Rattle.def_confined.specs.Changes.{Turned}
use Rattle.law_moves.proofs.Puts.{plain_kept, plain_region}

-- a stack granule is held by the frames of its own thread alone
pub stack_after : (i : Image) (s : State) (t u : ℕ) (new : Thread) (x : ℕ) (c : Cap) → (t ≡ u → outer new.frames x ≡ outer (thread s u).frames x) → InFrames i s.objects u (outer (thread s u).frames x) c
    → InFrames i s.objects u (outer (thread (switched i s t 0 new s.running) u).frames x) c
stack_after i s t u new x c same old = after_set_split (λ (th : Thread). InFrames i s.objects u (outer th.frames x) c) s.threads t u new nobody
    (λ e. let P : List Frame → Type 0 = λ fs. InFrames i s.objects u fs c in subst P (sym (same e)) old)
    (λ e none. let P : Thread → Type 0 = λ th. InFrames i s.objects u (outer th.frames x) c in subst P none old)
    (λ n. old)

pub region_after : (i : Image) (s : State) (t high : ℕ) (new : Thread) (run : Option ℕ) (k : ℕ) (r : Region) (g : Granule) → Partitioned i → Turned i s t high new run → region i k ≡ r
    → (address_of i k < stack_base i t) ⊎ (high ≤ address_of i k) → InRegion i s k r g → InRegion i (switched i s t high new run) k r g
region_after i s t high new run k Fixed g p w e o h = h
region_after i s t high new run k (Globals m) g p w e o h = h
region_after i s t high new run k (Shared m) g p w e o h = h
region_after i s t high new run k HeapRam g p w e o h = h
region_after i s t high new run k Bare g p w e o h = h
region_after i s t high new run k (Stack u) g p w e o h = stack_after i s t u new (address_of i k) g.cap
    (λ same.
    let home : stack_base i u ≤ address_of i k = p.stack_home k u e in
    let here : stack_base i t ≤ address_of i k = let P : ℕ → Type 0 = λ n. stack_base i n ≤ address_of i k in subst P (sym same) home in
    let above : high ≤ address_of i k = elim o [ inl below ↦ absurd (omega (arith, below, here)) | inr a ↦ a ] in
    let P : ℕ → Type 0 = λ n. outer new.frames (address_of i k) ≡ outer (thread s n).frames (address_of i k) in
    subst P same (w.outers (address_of i k) above))
    h

-- one thread changes whole, and its stack is zeroed up to an address
pub switched_confined : (i : Image) (s : State) (t high : ℕ) (new : Thread) (run : Option ℕ) → Partitioned i → Confined i s → Turned i s t high new run → Confined i (switched i s t high new run)
switched_confined i s t high new run p h w =
    let after : State = switched i s t high new run in
    record {
      granules = λ k. zeroed_at (stack_base i t) high i.ram s.granules k (λ g. InRegion i (switched i s t high new run) k (region i k) g)
          (λ from below.
          let is : region i k ≡ Stack t = p.stack_span k t w.stack from (omega (arith, below, w.inside)) in
          plain_region i (switched i s t high new run) k (region i k) (blank (granule s k)) (λ fixed. let clash : Stack t ≡ Fixed = sym is ∙ fixed in cc) refl)
          (λ outside. region_after i s t high new run k (region i k) (granule s k) p w refl outside (h.granules k));
      pcc = λ u. after_set_at (λ n (th : Thread). InFrames i s.objects n th.frames th.pcc) s.threads t u new nobody w.pcc (h.pcc u);
      registers = λ u n. after_set_at (λ m (th : Thread). InFrames i s.objects m th.frames (register th n)) s.threads t u new nobody (w.registers n) (h.registers u n);
      frames = λ u. after_set_at (λ m (th : Thread). FramesHold i s.objects m th.frames) s.threads t u new nobody w.frames (h.frames u);
      postures = λ u. after_set (λ (th : Thread). PostureFits i th th.frames) s.threads t u new nobody w.posture (h.postures u);
      runs = λ u. after_set (λ (th : Thread). th.pcc.tag ≡ true → IsPcc i th.pcc) s.threads t u new nobody w.runs (h.runs u);
      kept = record {
        granules = λ k. zeroed_at (stack_base i t) high i.ram s.granules k (λ g. Kept i g.cap) (λ a b. plain_kept i (plain 0) refl) (λ o. h.kept.granules k);
        registers = λ u n. after_set (λ (th : Thread). Kept i (register th n)) s.threads t u new nobody (w.kept n) (h.kept.registers u n);
        frames = λ u. after_set (λ (th : Thread). Each (SavedKept i) th.frames) s.threads t u new nobody w.kept_frames (h.kept.frames u);
      };
      live = λ u is n. after_set_split (λ (th : Thread). HasLive i s.objects (register th n)) s.threads t u new nobody
          (λ e. w.live (let P : ℕ → Type 0 = λ m. run ≡ Some m in subst P (sym e) is) n)
          (λ e none tagged. absurd (let clash : true ≡ false = sym tagged in cc))
          (λ other. h.live u (w.stays u is) n);
      apart = h.apart;
      numbered = h.numbered;
      fits = h.fits;
      marks = λ k. zeroed_at (stack_base i t) high i.ram s.granules k (λ g. MarksFit i s.objects k g.mark) (λ a b. h.marks k) (λ o. h.marks k);
      limits = h.limits;
      size = rw (zeroed_length (stack_base i t) high i.ram s.granules) h.size;
    }
