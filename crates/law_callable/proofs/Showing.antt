-- What is seen of an engine that holds a confined state of a sound image's machine.
use Rattle.std.proofs.Common.{ℕ, ◌≡◌, ◌+◌, ◌*◌, ◌%◌, ◌≤◌, ◌<◌, List, [], ◌∷◌, length, sym, ap, subst, arith}
use Rattle.def_machine.specs.Image.{Image, stack_base, stack_top}
use Rattle.def_machine.specs.State.{State, Frame, Object}
use Rattle.def_machine.specs.State as state
use Rattle.def_confined.specs.Confined.{FrameHolds, FramesHold, Confined}
use Rattle.def_step.specs.Switch.{frame_top}
use Rattle.ct_engine.specs.Seen.{EngineRow, thread, area_at, region_of}
use Rattle.ct_engine.specs.Calls.{TopLies}
use Rattle.ct_boot.specs.Placed.{IsPlaced}
use Rattle.def_image.specs.Parts.{PartsRow}
use Rattle.def_image.specs.Sound.{Sound}
use Rattle.def_boot.specs.Boot.{image_of}

-- RAM, its region and where the heap begins, and of thread t its area and its stack, its registers and its frames are seen as image and state
-- have them. Of its status nothing is said: that is the scheduler's.
pub record ShowsCaller (i : Image) (m : State) (s : EngineRow) (t : ℕ) : Type 0 where
  pub parts : PartsRow
  pub sound : Sound parts
  pub is : i ≡ image_of parts
  pub confined : Confined i m
  pub region : s.region ≡ region_of i
  pub heap : i.heap_base ≡ s.heap_base
  pub granules : s.state.granules ≡ m.granules
  pub placed : IsPlaced i (8 * length s.state.granules) t (area_at s t)
  pub registers : (thread s t).registers ≡ (state.thread m t).registers
  pub frames : (thread s t).frames ≡ (state.thread m t).frames

lies_by : (i : Image) (objects : List Object) (s : EngineRow) (t : ℕ) (fs : List Frame) → (thread s t).frames ≡ fs → 0 < length fs → FramesHold i objects t fs
    → (area_at s t).stack ≡ stack_base i t → (area_at s t).stack + (area_at s t).stack_length ≡ stack_top i t → TopLies s t
lies_by i objects s t [] same some holds base high = absurd (omega (arith, some))
lies_by i objects s t (f ∷ fs) same some holds base high =
    let first : FrameHolds i objects t f fs = holds.0 in
    let top : frame_top (thread s t).frames ≡ f.top = ap (λ (l : List Frame). frame_top l) same in
    record {
      even = subst (λ n. n % 16 ≡ 0) (sym top) first.even;
      low = subst (λ n. (area_at s t).stack ≤ n) (sym top) (subst (λ n. n ≤ f.top) (sym base) first.low);
      high = subst (λ n. n ≤ (area_at s t).stack + (area_at s t).stack_length) (sym top) (subst (λ n. f.top ≤ n) (sym high) first.high);
    }

-- where a state is confined, the top of an innermost frame lies in the stack of its thread
pub top_lies : (i : Image) (m : State) (s : EngineRow) (size t : ℕ) → Confined i m → IsPlaced i size t (area_at s t)
    → (thread s t).frames ≡ (state.thread m t).frames → 0 < length (thread s t).frames → TopLies s t
top_lies i m s size t held placed same some =
    lies_by i m.objects s t (state.thread m t).frames same (subst (λ (l : List Frame). 0 < length l) same some) (held.frames t) placed.base_is placed.top_is
