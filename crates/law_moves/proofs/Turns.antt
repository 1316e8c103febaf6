-- One thread changes and its frames stay; the clockwork goes on.
use Rattle.std.proofs.Common.{ℕ, zero, suc, ◌≡◌, true, false, List, Option, Some, refl, sym, subst, [], ◌∷◌}
use Rattle.law_lists.proofs.Sets.{after_set, after_set_at, after_set_split}
use Rattle.std.proofs.Math.ListN.{get_or}
use Rattle.def_words.specs.declared.Cap.{Cap}
use Rattle.def_memory.specs.declared.Granule.{Granule}
use Rattle.def_memory.specs.Granules.{plain}
use Rattle.def_machine.specs.Image.{Image, Region, Fixed, Globals, Shared, HeapRam, Stack, Bare, region, address_of, root}
use Rattle.def_machine.specs.State.{State, Thread, Frame, Token, granule, thread, register, nobody}
use Rattle.def_machine.specs.Registers.{written, with_registers, put_register}
use Rattle.def_machine.specs.Threads.{Clockwork, changed}
use Rattle.def_machine.specs.Objects.{Each}
use Rattle.def_confined.specs.Capabilities.{Kept}
use Rattle.def_confined.specs.Places.{InRegion, InFrames, HasLive, outer}
use Rattle.def_confined.specs.Confined.{Confined, FramesHold, PostureFits, IsPcc, SavedKept}
use Rattle.def_confined.specs.Changes.{Changes}
use Rattle.def_words.specs.declared.Posture.{Posture}
use Rattle.def_reach.specs.Sharing.{Reaches}

region_stays : (i : Image) (s : State) (t : ℕ) (new : Thread) (run : Option ℕ) (w : Clockwork) (k : ℕ) (r : Region) (g : Granule) → new.frames ≡ (thread s t).frames → InRegion i s k r g → InRegion i (changed s t new run w) k r g
region_stays i s t new run w k Fixed g e h = h
region_stays i s t new run w k (Globals m) g e h = h
region_stays i s t new run w k (Shared m) g e h = h
region_stays i s t new run w k HeapRam g e h = h
region_stays i s t new run w k Bare g e h = h
region_stays i s t new run w k (Stack u) g e h = after_set_split (λ (th : Thread). InFrames i s.objects u (outer th.frames (address_of i k)) g.cap) s.threads t u new nobody
    (λ same.
    let P : List Frame → Type 0 = λ fs. InFrames i s.objects u (outer fs (address_of i k)) g.cap in
    let Q : ℕ → Type 0 = λ n. new.frames ≡ (thread s n).frames in
    subst P (sym (subst Q same e)) h)
    (λ same none. let P : Thread → Type 0 = λ th. InFrames i s.objects u (outer th.frames (address_of i k)) g.cap in subst P none h)
    (λ n. h)

-- one thread changes and its frames stay, with who runs, the clock and the devices
pub changed_confined : (i : Image) (s : State) (t : ℕ) (new : Thread) (run : Option ℕ) (w : Clockwork) → Confined i s → Changes i s t new run → Confined i (changed s t new run w)
changed_confined i s t new run w h c = record {
  granules = λ k. region_stays i s t new run w k (region i k) (granule s k) c.frames (h.granules k);
  pcc = λ u. after_set_at (λ n (th : Thread). InFrames i s.objects n th.frames th.pcc) s.threads t u new nobody
      (let P : List Frame → Type 0 = λ fs. InFrames i s.objects t fs new.pcc in subst P (sym c.frames) c.pcc) (h.pcc u);
  registers = λ u n. after_set_at (λ m (th : Thread). InFrames i s.objects m th.frames (register th n)) s.threads t u new nobody
      (let P : List Frame → Type 0 = λ fs. InFrames i s.objects t fs (register new n) in subst P (sym c.frames) (c.registers n)) (h.registers u n);
  frames = λ u. after_set_at (λ m (th : Thread). FramesHold i s.objects m th.frames) s.threads t u new nobody
      (let P : List Frame → Type 0 = λ fs. FramesHold i s.objects t fs in subst P (sym c.frames) (h.frames t)) (h.frames u);
  postures = λ u. after_set (λ (th : Thread). PostureFits i th th.frames) s.threads t u new nobody
      (let P : List Frame → Type 0 = λ fs. PostureFits i new fs in subst P (sym c.frames) c.posture) (h.postures u);
  runs = λ u. after_set (λ (th : Thread). th.pcc.tag ≡ true → IsPcc i th.pcc) s.threads t u new nobody c.runs (h.runs u);
  kept = record {
    granules = h.kept.granules;
    registers = λ u n. after_set (λ (th : Thread). Kept i (register th n)) s.threads t u new nobody (c.kept n) (h.kept.registers u n);
    frames = λ u. after_set (λ (th : Thread). Each (SavedKept i) th.frames) s.threads t u new nobody
        (let P : List Frame → Type 0 = λ fs. Each (SavedKept i) fs in subst P (sym c.frames) (h.kept.frames t)) (h.kept.frames u);
  };
  live = λ u is n. after_set_split (λ (th : Thread). HasLive i s.objects (register th n)) s.threads t u new nobody
      (λ e. c.live (let P : ℕ → Type 0 = λ m. run ≡ Some m in subst P (sym e) is) n)
      (λ e none tagged. absurd (let clash : true ≡ false = sym tagged in cc))
      (λ other. h.live u (c.others u other is) n);
  apart = h.apart;
  numbered = h.numbered;
  fits = h.fits;
  marks = h.marks;
  limits = h.limits;
  size = h.size;
}

-- the clockwork as it stands
abbrev pub clock_of : State → Clockwork
clock_of s = record { pending = s.pending; devices = s.devices; time = s.time; picks = s.picks; counts = s.counts }

-- what a confined state doesn't hang on changes: tokens, who runs where it ran before or none does, and the clockwork
pub beside_confined : (i : Image) (s : State) (tokens : List Token) (run : Option ℕ) (w : Clockwork) → ((u : ℕ) → run ≡ Some u → s.running ≡ Some u) → Confined i s
    → Confined i (record s { tokens = tokens; running = run; pending = w.pending; devices = w.devices; time = w.time; picks = w.picks; counts = w.counts })
beside_confined i s tokens run w stays h = record {
  granules = h.granules;
  pcc = h.pcc;
  registers = h.registers;
  frames = h.frames;
  postures = h.postures;
  runs = h.runs;
  kept = record { granules = h.kept.granules; registers = h.kept.registers; frames = h.kept.frames };
  live = λ t is n. h.live t (stays t is) n;
  apart = h.apart;
  numbered = h.numbered;
  fits = h.fits;
  marks = h.marks;
  limits = h.limits;
  size = h.size;
}

-- one thread's registers change
pub registers_confined : (i : Image) (s : State) (t : ℕ) (rs : List Cap) → Confined i s → ((n : ℕ) → InFrames i s.objects t (thread s t).frames (get_or rs n (plain 0))) → ((n : ℕ) → Kept i (get_or rs n (plain 0)))
    → (s.running ≡ Some t → (n : ℕ) → HasLive i s.objects (get_or rs n (plain 0))) → Confined i (with_registers s t rs)
registers_confined i s t rs h placed kept live = changed_confined i s t (record (thread s t) { registers = rs }) s.running (clock_of s) h (record {
  frames = refl;
  pcc = h.pcc t;
  registers = placed;
  kept = kept;
  posture = h.postures t;
  runs = h.runs t;
  live = live;
  others = λ u n is. is;
})

-- a register is written, or it is register 0 and stays
pub after_written : (P : Cap → Type 0) (rs : List Cap) (n k : ℕ) (c : Cap) → P c → P (get_or rs k (plain 0)) → P (get_or (written rs n c) k (plain 0))
after_written P rs zero k c new old = old
after_written P rs (suc n) k c new old = after_set P rs (suc n) k c (plain 0) new old

-- one register of a thread changes
pub put_register_confined : (i : Image) (s : State) (t n : ℕ) (c : Cap) → Confined i s → InFrames i s.objects t (thread s t).frames c → Kept i c → (s.running ≡ Some t → HasLive i s.objects c) → Confined i (put_register s t n c)
put_register_confined i s t n c h placed kept live = registers_confined i s t (written (thread s t).registers n c) h
    (λ k. after_written (λ d. InFrames i s.objects t (thread s t).frames d) (thread s t).registers n k c placed (h.registers t k))
    (λ k. after_written (Kept i) (thread s t).registers n k c kept (h.kept.registers t k))
    (λ is k. after_written (HasLive i s.objects) (thread s t).registers n k c (live is) (h.live t is k))

-- a thread of the same posture fits its frames as well
pub fits_as : (i : Image) (a b : Thread) (fs : List Frame) → b.posture ≡ a.posture → PostureFits i a fs → PostureFits i b fs
fits_as i a b [] e h = tt
fits_as i a b (f ∷ fs) e h =
    let P : Posture → Type 0 = λ p. p.off ≡ true → ((root i p.source).disabled ≡ true) × Reaches i.entries (root i p.source).owner f.actor in
    subst P (sym e) h
