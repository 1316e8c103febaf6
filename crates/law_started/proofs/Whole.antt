-- The state that a sound image boots is confined, with what stands beside.
use Rattle.std.proofs.Common.{ℕ, zero, suc, ◌≡◌, ◌+◌, ◌-◌, ◌*◌, ◌≤◌, true, List, [], ◌∷◌, map, length, Some, None, slice_get, refl, sym, ◌∙◌, arith}
use Rattle.std.proofs.Math.ListN.{get_or}
use Rattle.def_profile.specs.declared.layout.TheConstants.{TRUSTED_HEAD}
use Rattle.def_sched.specs.declared.Status.TheVariants.{Ready, Ended}
use Rattle.def_memory.specs.Granules.{plain}
use Rattle.def_machine.specs.Image.{areas_size, area_of}
use Rattle.def_machine.specs.State.{Frame, nobody, granule, register}
use Rattle.def_machine.specs.Objects.{Each}
use Rattle.def_confined.specs.Capabilities.{Kept}
use Rattle.def_confined.specs.Places.{InFrames}
use Rattle.def_confined.specs.Confined.{Confined, FramesHold, PostureFits, IsPcc, SavedKept}
use Rattle.def_confined.specs.Holding.{EndFits, EndsFit}
use Rattle.def_confined.specs.Keeps.{Keeps}
use Rattle.def_confined.specs.Swept.{FramesSwept, Swept, Bounded}
use Rattle.def_image.specs.Parts.{ThreadRow, PartsRow}
use Rattle.def_image.specs.Sizes.{sum_of}
use Rattle.def_image.specs.Regions.{area_size, trusted_size}
use Rattle.def_image.specs.Sound.{Sound}
use Rattle.def_boot.specs.Boot.{image_of, boot_state, first_threads, first_frame}
use Rattle.law_moves.proofs.Puts.{plain_kept}
use Rattle.law_boot.proofs.Sets.{no_way}
use Rattle.law_boot.proofs.Lying.{trusted_there}
use Rattle.law_started.proofs.Threads.{of_thread, pcc_in, pcc_runs, register_in, register_kept, frame_holds, posture_fits, saved_kept}
use Rattle.law_started.proofs.Granules.{in_region, same_granule, unmarked, kept_there, granules_end}
use Rattle.law_layout.proofs.Placing.{size_fits}

-- ---- each thread has one frame and sixteen registers

first_deep : (p : PartsRow) (t : ℕ) (xs : List ThreadRow) (u : ℕ) → ((k : ℕ) (x : ThreadRow) → slice_get xs k ≡ Some x → 1 ≤ x.frames) → length (get_or (first_threads p t xs) u nobody).frames ≤ get_or (map (λ (x : ThreadRow). x.frames) xs) u 0
first_deep p t [] u each = omega arith
first_deep p t (x ∷ xs) zero each = each 0 x refl
first_deep p t (x ∷ xs) (suc u) each = first_deep p (t + 1) xs u (λ k y is. each (suc k) y is)

first_few : (p : PartsRow) (t : ℕ) (xs : List ThreadRow) (u : ℕ) → length (get_or (first_threads p t xs) u nobody).registers ≤ 16
first_few p t [] u = omega arith
first_few p t (x ∷ xs) zero = omega arith
first_few p t (x ∷ xs) (suc u) = first_few p (t + 1) xs u

first_many : (p : PartsRow) (t : ℕ) (xs : List ThreadRow) → length (first_threads p t xs) ≤ length (map (λ (x : ThreadRow). x.frames) xs)
first_many p t [] = omega arith
first_many p t (x ∷ xs) = let rest = first_many p (t + 1) xs in omega (arith, rest)

first_ends : (p : PartsRow) (t : ℕ) (xs : List ThreadRow) (u : ℕ) → EndFits (get_or (first_threads p t xs) u nobody)
first_ends p t [] u = record { over = λ e. refl; none = λ e. (refl, refl) }
first_ends p t (x ∷ xs) zero = record {
  over = λ e. absurd (let clash : Ready ≡ Ended = e in cc);
  none = λ e. absurd (let clash : (first_frame p x ∷ []) ≡ [] = e in cc);
}
first_ends p t (x ∷ xs) (suc u) = first_ends p (t + 1) xs u

pub areas_are : (xs : List ThreadRow) → sum_of area_size xs ≡ areas_size (map (λ (x : ThreadRow). x.frames) xs)
areas_are [] = refl
areas_are (x ∷ xs) = let rest = areas_are xs in omega (arith, rest)

-- ---- no sweep runs, and there is no object

swept : (p : PartsRow) → Swept (image_of p) (boot_state p)
unfolding boot_state
swept p = record {
  granules = λ k passed. absurd passed;
  registers = λ t n stops passed. absurd passed;
  frames = λ t. idle (area_of (image_of p) t - (image_of p).ram) (get_or (first_threads p 0 p.threads) t nobody).frames;
  idle = λ none. tt;
}
  where
    idle : (area : ℕ) (fs : List Frame) → FramesSwept (image_of p) [] None area fs
    idle area [] = tt
    idle area (g ∷ gs) = (record { c1 = λ q. absurd q; c2 = λ q. absurd q; c3 = λ q. absurd q; c8 = λ q. absurd q; c9 = λ q. absurd q }, idle area gs)

ends : (p : PartsRow) → EndsFit (boot_state p)
unfolding boot_state
ends p = λ u. first_ends p 0 p.threads u

module _ (p : PartsRow) (s : Sound p) where
  heap_fits : (image_of p).heap_end ≤ (image_of p).ram + 8 * length (boot_state p).granules
  unfolding image_of
  heap_fits = let all = granules_end p s in omega (arith, all)

  pub areas_fit : p.trusted + TRUSTED_HEAD + areas_size (map (λ (x : ThreadRow). x.frames) p.threads) ≤ p.ram + p.size
  areas_fit =
      let long = size_fits (trusted_size p.threads) in
      let after = s.heap.after in
      let inside = s.heap.inside in
      let same = areas_are p.threads in
      omega (arith, long, after, inside, same)

  bounded : Bounded (image_of p) (boot_state p)
  unfolding image_of boot_state
  bounded =
      let low = (trusted_there p s).low in
      let all = granules_end p s in
      let fit = areas_fit in
      record {
        deep = λ u. first_deep p 0 p.threads u (λ k x is. (s.thread k x is).frames.0);
        few = λ u. first_few p 0 p.threads u;
        many = first_many p 0 p.threads;
        areas = omega (arith, low);
        fits = omega (arith, all, fit);
      }

  none_kept : Kept (image_of p) (plain 0)
  none_kept = plain_kept (image_of p) (plain 0) refl

  pub confined : Confined (image_of p) (boot_state p)
  unfolding boot_state
  confined = record {
    granules = λ k. in_region p s k (granule (boot_state p) k) (same_granule p s k);
    pcc = λ t. of_thread p (λ z. InFrames (image_of p) [] t z.frames z.pcc) t (pcc_in p s t) refl;
    registers = λ t n. of_thread p (λ z. InFrames (image_of p) [] t z.frames (register z n)) t (λ x there. register_in p s t x there n) refl;
    frames = λ t. of_thread p (λ z. FramesHold (image_of p) [] t z.frames) t (frame_holds p s t) tt;
    postures = λ t. of_thread p (λ z. PostureFits (image_of p) z z.frames) t (posture_fits p s t) tt;
    runs = λ t. of_thread p (λ z. z.pcc.tag ≡ true → IsPcc (image_of p) z.pcc) t (pcc_runs p s t) (λ tagged. no_way tagged);
    kept = record {
      granules = kept_there p s;
      registers = λ t n. of_thread p (λ z. Kept (image_of p) (register z n)) t (λ x there. register_kept p s t x there n) none_kept;
      frames = λ t. of_thread p (λ z. Each (SavedKept (image_of p)) z.frames) t (saved_kept p s t) tt;
    };
    live = λ t runs. absurd (let clash : None ≡ Some t = runs in cc);
    apart = tt;
    numbered = omega arith;
    fits = tt;
    marks = λ k. record {
      why = λ mark. no_way (sym (unmarked p s k) ∙ mark);
      all = λ there. absurd there;
    };
    limits = λ q. omega arith;
    size = heap_fits;
  }

  pub keeps : Keeps (image_of p) (boot_state p)
  keeps = record {
    confined = confined;
    beside = record { swept = swept p; bounded = bounded; ends = ends p };
  }
