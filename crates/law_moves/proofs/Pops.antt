-- Moves of one thread: a return, an unwind, the end of the thread.
use Rattle.std.proofs.Common.{ℕ, ◌≡◌, ◌-◌, ◌≤◌, true, false, List, [], ◌∷◌, length, Some, None, refl, sym, ◌∙◌, subst, arith}
use Rattle.def_profile.specs.declared.answers.TheConstants.{UNWOUND}
use Rattle.def_words.specs.declared.Cap.{Cap}
use Rattle.def_memory.specs.Granules.{plain}
use Rattle.def_memory.specs.Ranges.{zeroed_from}
use Rattle.def_machine.specs.Image.{Image, area_of, frames_most, stack_base}
use Rattle.def_machine.specs.State.{State, Frame, thread, nobody}
use Rattle.def_machine.specs.Frames.{returned, ended_with, unwound, left_by, answer}
use Rattle.def_confined.specs.Keeps.{Beside, Keeps}
use Rattle.def_confined.specs.Partitioned.{Partitioned}
use Rattle.def_confined.specs.Swept.{FramesSwept, Bounded}
use Rattle.law_moves.proofs.Turns.{clock_of}
use Rattle.law_moves.proofs.CallsPops.{returned_confined, ended_confined}
use Rattle.law_moves.proofs.SweepsMoves.{ThreadLeft, moved_beside}
use Rattle.law_moves.proofs.Threads.{zeroed_left}

-- the last frame ends, and none runs
over_left : (i : Image) (s : State) (t : ℕ) → s.running ≡ Some t → ThreadLeft i s t nobody None
over_left i s t runs = record {
  sweeps = λ h. record {
    frames = tt;
    registers = λ idle n tagged. absurd (let clash : false ≡ true = tagged in cc);
    others = λ u other idle is. other (let same : Some t ≡ Some u = sym runs ∙ is in cc);
  };
  deep = omega arith;
  few = omega arith;
  ends = λ h. record { over = λ e. refl; none = λ e. (refl, refl) };
}

-- a frame ends, and its caller goes on
back_left : (i : Image) (s : State) (t : ℕ) (f g : Frame) (gs : List Frame) (first second : Cap) → s.running ≡ Some t → (thread s t).frames ≡ f ∷ g ∷ gs → Bounded i s
    → ThreadLeft i s t (left_by i s (thread s t) f (g ∷ gs) first second) s.running
back_left i s t f g gs first second runs frames bound = record {
  sweeps = λ h. record {
    frames = (subst (λ (fs : List Frame). FramesSwept i s.objects s.front (area_of i t - i.ram) fs) frames (h.frames t)).1;
    registers = λ idle. absurd (idle runs);
    others = λ u other idle is. idle is;
  };
  deep = let deep : length (f ∷ g ∷ gs) ≤ frames_most i t = subst (λ (fs : List Frame). length fs ≤ frames_most i t) frames (bound.deep t) in omega (arith, deep);
  few = omega arith;
  ends = λ h. record {
    over = λ e. absurd (let clash : (f ∷ g ∷ gs) ≡ [] = sym frames ∙ h.over e in cc);
    none = λ e. absurd (let clash : (g ∷ gs) ≡ [] = e in cc);
  };
}

pub returned_beside : (i : Image) (s : State) (t : ℕ) (fs : List Frame) → (thread s t).frames ≡ fs → s.running ≡ Some t → Beside i s → Beside i (returned i s t fs)
returned_beside i s t [] e runs b = b
returned_beside i s t (f ∷ []) e runs b = moved_beside i s t (zeroed_from (stack_base i t) f.top i.ram s.granules) nobody None (clock_of s) (zeroed_left i s t f.top) (over_left i s t runs) b
returned_beside i s t (f ∷ g ∷ gs) e runs b =
    moved_beside i s t (zeroed_from (stack_base i t) f.top i.ram s.granules) (left_by i s (thread s t) f (g ∷ gs) (answer i (thread s t) f 10) (answer i (thread s t) f 11)) s.running (clock_of s)
    (zeroed_left i s t f.top)
    (back_left i s t f g gs (answer i (thread s t) f 10) (answer i (thread s t) f 11) runs e b.bounded)
    b

pub ended_beside : (i : Image) (s : State) (t value : ℕ) (fs : List Frame) → (thread s t).frames ≡ fs → s.running ≡ Some t → Beside i s → Beside i (ended_with i s t value fs)
ended_beside i s t value [] e runs b = b
ended_beside i s t value (f ∷ []) e runs b = moved_beside i s t (zeroed_from (stack_base i t) f.top i.ram s.granules) nobody None (clock_of s) (zeroed_left i s t f.top) (over_left i s t runs) b
ended_beside i s t value (f ∷ g ∷ gs) e runs b =
    moved_beside i s t (zeroed_from (stack_base i t) f.top i.ram s.granules) (left_by i s (thread s t) f (g ∷ gs) (plain value) (plain 0)) s.running (clock_of s)
    (zeroed_left i s t f.top)
    (back_left i s t f g gs (plain value) (plain 0) runs e b.bounded)
    b

pub unwound_beside : (i : Image) (s : State) (t : ℕ) (fs : List Frame) → (thread s t).frames ≡ fs → s.running ≡ Some t → Beside i s → Beside i (unwound i s t fs)
unwound_beside i s t fs e runs b = ended_beside i s t UNWOUND fs e runs b

-- ---- whole

pub returned_keeps : (i : Image) (s : State) (t : ℕ) → Partitioned i → Keeps i s → s.running ≡ Some t → Keeps i (returned i s t (thread s t).frames)
returned_keeps i s t parts k runs = record {
  confined = returned_confined i s t (thread s t).frames parts k.confined refl;
  beside = returned_beside i s t (thread s t).frames refl runs k.beside;
}

pub ended_keeps : (i : Image) (s : State) (t value : ℕ) → Partitioned i → Keeps i s → s.running ≡ Some t → Keeps i (ended_with i s t value (thread s t).frames)
ended_keeps i s t value parts k runs = record {
  confined = ended_confined i s t value (thread s t).frames parts k.confined refl;
  beside = ended_beside i s t value (thread s t).frames refl runs k.beside;
}

pub unwound_keeps : (i : Image) (s : State) (t : ℕ) → Partitioned i → Keeps i s → s.running ≡ Some t → Keeps i (unwound i s t (thread s t).frames)
unwound_keeps i s t parts k runs = ended_keeps i s t UNWOUND parts k runs
