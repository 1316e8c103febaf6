-- The other moves keep what the sweep has done: what a running thread may put anywhere is of a live object.
use Rattle.std.proofs.Common.{ℕ, ◌≡◌, ◌-◌, true, false, ◌∷◌, Option, Some, refl, sym, ◌∙◌, subst}
use Rattle.law_lists.proofs.Sets.{after_set_at, after_set_split}
use Rattle.def_words.specs.declared.Cap.{Cap}
use Rattle.def_machine.specs.Image.{Image, area_of}
use Rattle.def_machine.specs.State.{State, Thread, Frame, thread, register, nobody}
use Rattle.def_sched.specs.declared.Status.{Status}
use Rattle.def_machine.specs.Threads.{Clockwork, changed, with_status}
use Rattle.def_confined.specs.Confined.{Confined}
use Rattle.def_confined.specs.Swept.{HasUnpainted, FramesSwept, Swept}
use Rattle.law_moves.proofs.Slices.{live_unpainted}

-- frames as the new self has them: for a push, of what the thread had in registers; for a step, as they were
pub record Sweeps (i : Image) (s : State) (t : ℕ) (new : Thread) (run : Option ℕ) : Type 0 where
  pub frames : FramesSwept i s.objects s.front (area_of i t - i.ram) new.frames
  pub registers : (run ≡ Some t → ⊥) → (n : ℕ) → HasUnpainted i s.objects (register new n)
  pub others : (u : ℕ) → (t ≡ u → ⊥) → (run ≡ Some u → ⊥) → s.running ≡ Some u → ⊥

pub changed_swept : (i : Image) (s : State) (t : ℕ) (new : Thread) (run : Option ℕ) (w : Clockwork) → Swept i s → Sweeps i s t new run → Swept i (changed s t new run w)
changed_swept i s t new run w h c = record {
  granules = h.granules;
  registers = λ u n idle passed. after_set_split (λ (th : Thread). HasUnpainted i s.objects (register th n)) s.threads t u new nobody
      (λ e. c.registers (λ is. idle (subst (λ m. run ≡ Some m) e is)) n)
      (λ e none tagged. absurd (let clash : false ≡ true = tagged in cc))
      (λ other. h.registers u n (c.others u other idle) passed);
  frames = λ u. after_set_at (λ m (th : Thread). FramesSwept i s.objects s.front (area_of i m - i.ram) th.frames) s.threads t u new nobody c.frames (h.frames u);
  idle = h.idle;
}

-- the running thread stops: what it held is of live objects
pub stop_swept : (i : Image) (s : State) (t : ℕ) (status : Status) (run : Option ℕ) (w : Clockwork) → s.running ≡ Some t → Confined i s → Swept i s → Swept i (changed s t (with_status (thread s t) status) run w)
stop_swept i s t status run w on h k = changed_swept i s t (with_status (thread s t) status) run w k (record {
  frames = k.frames t;
  registers = λ idle n tagged heap some. live_unpainted i s.next s.objects (register (thread s t) n) h.fits (h.live t on n tagged heap some);
  others = λ u other idle is. other (let same : Some t ≡ Some u = sym on ∙ is in cc);
})

-- a push: what the running thread saves is of live objects, wherever the sweep is
pub push_swept : (i : Image) (s : State) (t : ℕ) (f : Frame) (new : Thread) (w : Clockwork) → s.running ≡ Some t → Confined i s → Swept i s
    → f.c1 ≡ register (thread s t) 1 → f.c2 ≡ register (thread s t) 2 → f.c3 ≡ register (thread s t) 3 → f.c8 ≡ register (thread s t) 8 → f.c9 ≡ register (thread s t) 9
    → Swept i (changed s t (record new { frames = f ∷ (thread s t).frames }) (Some t) w)
push_swept i s t f new w on h k c1 c2 c3 c8 c9 = changed_swept i s t (record new { frames = f ∷ (thread s t).frames }) (Some t) w k (record {
  frames = (record { c1 = λ p. saved 1 f.c1 c1; c2 = λ p. saved 2 f.c2 c2; c3 = λ p. saved 3 f.c3 c3; c8 = λ p. saved 8 f.c8 c8; c9 = λ p. saved 9 f.c9 c9 }, k.frames t);
  registers = λ idle n. absurd (idle refl);
  others = λ u other idle is. other (let same : Some t ≡ Some u = sym on ∙ is in cc);
})
  where
    saved : (n : ℕ) (c : Cap) → c ≡ register (thread s t) n → HasUnpainted i s.objects c
    saved n c is = subst (HasUnpainted i s.objects) (sym is) (λ tagged heap some. live_unpainted i s.next s.objects (register (thread s t) n) h.fits (h.live t on n tagged heap some))
