-- A state with one thread and no object, whose RAM is as boot filled it, is confined where what its thread holds is.
use Rattle.std.proofs.Common.{ℕ, zero, suc, ◌≡◌, ◌+◌, ◌*◌, ◌≤◌, ◌||◌, not, true, false, List, [], ◌∷◌, Option, Some, length, refl, sym, ap, ◌∙◌, subst, arith, lit<}
use Rattle.def_memory.specs.declared.Granule.{Granule}
use Rattle.def_memory.specs.Granules.{plain, granule_at}
use Rattle.def_machine.specs.Image.{Image, region, booted}
use Rattle.def_machine.specs.State.{State, Thread, DeviceState, at_rest, thread, register}
use Rattle.def_machine.specs.Objects.{Each}
use Rattle.def_confined.specs.Capabilities.{Kept}
use Rattle.def_confined.specs.Places.{InFrames, HasLive}
use Rattle.def_confined.specs.Confined.{Confined, FramesHold, PostureFits, IsPcc, SavedKept}
use Rattle.law_moves.proofs.Puts.{plain_kept}
use Rattle.law_moves.proofs.Boots.{is_fixed, filled_region}

-- memory as boot filled it, where only what is fixed holds a capability
pub record Filled (i : Image) (gs : List Granule) : Type 0 where
  pub filled : (k : ℕ) → granule_at gs k ≡ booted i k
  pub untagged : (k : ℕ) → (is_fixed (region i k) || not (booted i k).cap.tag) ≡ true
  pub kept : (k : ℕ) → Kept i (booted i k).cap
  pub unmarked : (k : ℕ) → (booted i k).mark ≡ false
  pub size : i.heap_end ≤ i.ram + 8 * length gs

-- what the invariant asks of thread 0
pub record ThreadHolds (i : Image) (r : Thread) (run : Option ℕ) : Type 0 where
  pub pcc : InFrames i [] 0 r.frames r.pcc
  pub registers : (n : ℕ) → InFrames i [] 0 r.frames (register r n)
  pub frames : FramesHold i [] 0 r.frames
  pub posture : PostureFits i r r.frames
  pub runs : r.pcc.tag ≡ true → IsPcc i r.pcc
  pub kept : (n : ℕ) → Kept i (register r n)
  pub saved : Each (SavedKept i) r.frames
  pub live : run ≡ Some 0 → (n : ℕ) → HasLive i [] (register r n)

abbrev pub alone : List Granule → Thread → Option ℕ → List DeviceState → List ℕ → State
alone gs r run devices picks = record (at_rest gs (r ∷ []) devices picks) { running = run }

pub alone_confined : (i : Image) (gs : List Granule) (r : Thread) (run : Option ℕ) (devices : List DeviceState) (picks : List ℕ) → Filled i gs → ThreadHolds i r run → Confined i (alone gs r run devices picks)
alone_confined i gs r run devices picks f h = record {
  granules = λ k. filled_region i (alone gs r run devices picks) k (region i k) (granule_at gs k) (ap (λ (g : Granule). g.cap) (f.filled k)) (f.untagged k);
  pcc = λ t. pcc_at t;
  registers = λ t n. register_at t n;
  frames = λ t. frames_at t;
  postures = λ t. posture_at t;
  runs = λ t. runs_at t;
  kept = record {
    granules = λ k. subst (λ (g : Granule). Kept i g.cap) (sym (f.filled k)) (f.kept k);
    registers = λ t n. kept_at t n;
    frames = λ t. saved_at t;
  };
  live = λ t runs n. live_at t runs n;
  apart = tt;
  numbered = lit< tt;
  fits = tt;
  marks = λ k. record {
    why = λ mark. absurd (let clash : true ≡ false = sym mark ∙ (ap (λ (g : Granule). g.mark) (f.filled k) ∙ f.unmarked k) in cc);
    all = λ there. absurd there;
  };
  limits = λ q. omega arith;
  size = f.size;
}
  where
    pcc_at : (t : ℕ) → InFrames i [] t (thread (alone gs r run devices picks) t).frames (thread (alone gs r run devices picks) t).pcc
    pcc_at zero = h.pcc
    pcc_at (suc t) = refl

    register_at : (t n : ℕ) → InFrames i [] t (thread (alone gs r run devices picks) t).frames (register (thread (alone gs r run devices picks) t) n)
    register_at zero n = h.registers n
    register_at (suc t) n = refl

    frames_at : (t : ℕ) → FramesHold i [] t (thread (alone gs r run devices picks) t).frames
    frames_at zero = h.frames
    frames_at (suc t) = tt

    posture_at : (t : ℕ) → PostureFits i (thread (alone gs r run devices picks) t) (thread (alone gs r run devices picks) t).frames
    posture_at zero = h.posture
    posture_at (suc t) = tt

    runs_at : (t : ℕ) → (thread (alone gs r run devices picks) t).pcc.tag ≡ true → IsPcc i (thread (alone gs r run devices picks) t).pcc
    runs_at zero tagged = h.runs tagged
    runs_at (suc t) tagged = absurd (let clash : false ≡ true = tagged in cc)

    kept_at : (t n : ℕ) → Kept i (register (thread (alone gs r run devices picks) t) n)
    kept_at zero n = h.kept n
    kept_at (suc t) n = plain_kept i (plain 0) refl

    saved_at : (t : ℕ) → Each (SavedKept i) (thread (alone gs r run devices picks) t).frames
    saved_at zero = h.saved
    saved_at (suc t) = tt

    live_at : (t : ℕ) → run ≡ Some t → (n : ℕ) → HasLive i [] (register (thread (alone gs r run devices picks) t) n)
    live_at zero runs n = h.live runs n
    live_at (suc t) runs n = λ tagged. absurd (let clash : false ≡ true = tagged in cc)
