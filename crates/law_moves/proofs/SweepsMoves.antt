-- A change of one thread and of granules, where the objects of the heap and the front stay: what stands beside
-- *Confined* stays too.
use Rattle.std.proofs.Common.{ℕ, ◌≡◌, ◌+◌, ◌-◌, ◌*◌, ◌≤◌, inl, inr, List, length, Option, Some, None, refl, sym, ap, ◌∙◌, subst, arith, slice_set}
use Rattle.std.proofs.lemmas.Bool.{cases_eq}
use Rattle.std.proofs.lemmas.List.{length-map, length-set}
use Rattle.law_lists.proofs.Sets.{after_set, after_set_at}
use Rattle.def_words.specs.declared.Cap.{Cap}
use Rattle.def_memory.specs.declared.Granule.{Granule}
use Rattle.def_memory.specs.Granules.{granule_at, nothing}
use Rattle.def_machine.specs.Image.{Image, area_of, frames_most}
use Rattle.def_machine.specs.State.{State, Thread, Frame, thread, register, granule, nobody}
use Rattle.def_machine.specs.Memory.{filtered}
use Rattle.def_machine.specs.Threads.{Clockwork, changed, picked}
use Rattle.def_confined.specs.Confined.{Confined}
use Rattle.def_confined.specs.Holding.{EndFits}
use Rattle.def_confined.specs.Keeps.{Beside}
use Rattle.def_confined.specs.Swept.{HasUnpainted, IsPassed, FramesSwept, Swept}
use Rattle.law_moves.proofs.Others.{Sweeps, changed_swept}
use Rattle.law_moves.proofs.Slices.{live_unpainted}

-- ---- granules

-- RAM of as many granules, with nothing that the sweep has passed of a painted object
pub record RamLeft (i : Image) (s : State) (gs : List Granule) : Type 0 where
  pub size : length gs ≡ length s.granules
  pub swept : Swept i s → (k : ℕ) → IsPassed s.front (8 * k) → HasUnpainted i s.objects (granule_at gs k).cap

pub ram_same : (i : Image) (s : State) → RamLeft i s s.granules
ram_same i s = record { size = refl; swept = λ h k passed. h.granules k passed }

-- a granule gets a value
pub set_left : (i : Image) (s : State) (k : ℕ) (c : Cap) → HasUnpainted i s.objects c → RamLeft i s (slice_set s.granules k (record { cap = c; mark = (granule s k).mark }))
set_left i s k c has = record {
  size = length-set s.granules k (record { cap = c; mark = (granule s k).mark });
  swept = λ h j passed. after_set (λ g. HasUnpainted i s.objects g.cap) s.granules k j (record { cap = c; mark = (granule s k).mark }) nothing has (h.granules j passed);
}

-- ---- a thread

abbrev pub moved : State → ℕ → List Granule → Thread → Option ℕ → Clockwork → State
moved s t gs new run w = record (changed s t new run w) { granules = gs }

-- the thread's new self
pub record ThreadLeft (i : Image) (s : State) (t : ℕ) (new : Thread) (run : Option ℕ) : Type 0 where
  pub sweeps : Swept i s → Sweeps i s t new run
  pub deep : length new.frames ≤ frames_most i t
  pub few : length new.registers ≤ 16
  pub ends : EndFits (thread s t) → EndFits new

-- the running thread with its frames as they were: its registers have no place that a sweep passes
pub running_left : (i : Image) (s : State) (t : ℕ) (new : Thread) → s.running ≡ Some t → new.frames ≡ (thread s t).frames → length new.registers ≤ 16 → (EndFits (thread s t) → EndFits new) → Beside i s → ThreadLeft i s t new s.running
running_left i s t new runs same few ends h = record {
  sweeps = λ w. record {
    frames = subst (λ (fs : List Frame). FramesSwept i s.objects s.front (area_of i t - i.ram) fs) (sym same) (w.frames t);
    registers = λ idle. absurd (idle runs);
    others = λ u other idle is. idle is;
  };
  deep = subst (λ (fs : List Frame). length fs ≤ frames_most i t) (sym same) (h.bounded.deep t);
  few = few;
  ends = ends;
}

-- a thread that is picked where none ran
pub picked_left : (i : Image) (s : State) (t : ℕ) → s.running ≡ None → Beside i s → ThreadLeft i s t (picked i s (thread s t)) (Some t)
picked_left i s t idle h = record {
  sweeps = λ w. record {
    frames = w.frames t;
    registers = λ stops. absurd (stops refl);
    others = λ u other stops is. let clash : None ≡ Some u = sym idle ∙ is in cc;
  };
  deep = h.bounded.deep t;
  few = omega (arith, h.bounded.few t, length-map (thread s t).registers (filtered i s));
  ends = λ e. record { over = e.over; none = e.none };
}

pub moved_beside : (i : Image) (s : State) (t : ℕ) (gs : List Granule) (new : Thread) (run : Option ℕ) (w : Clockwork) → RamLeft i s gs → ThreadLeft i s t new run → Beside i s → Beside i (moved s t gs new run w)
moved_beside i s t gs new run w ram left b =
    let threads = changed_swept i s t new run w b.swept (left.sweeps b.swept) in
    record {
      swept = record {
        granules = ram.swept b.swept;
        registers = threads.registers;
        frames = threads.frames;
        idle = threads.idle;
      };
      bounded = record {
        deep = λ u. after_set_at (λ n (th : Thread). length th.frames ≤ frames_most i n) s.threads t u new nobody left.deep (b.bounded.deep u);
        few = λ u. after_set (λ (th : Thread). length th.registers ≤ 16) s.threads t u new nobody left.few (b.bounded.few u);
        many = omega (arith, b.bounded.many, length-set s.threads t new);
        areas = b.bounded.areas;
        fits = omega (arith, b.bounded.fits, ram.size);
      };
      ends = λ u. after_set EndFits s.threads t u new nobody (left.ends (b.ends t)) (b.ends u);
    }

-- ---- the clock, and threads that stop

pub clock_beside : (i : Image) (s : State) (w : Clockwork) → Beside i s → Beside i (record s { pending = w.pending; devices = w.devices; time = w.time; picks = w.picks; counts = w.counts })
clock_beside i s w b = record {
  swept = record { granules = b.swept.granules; registers = b.swept.registers; frames = b.swept.frames; idle = b.swept.idle };
  bounded = record { deep = b.bounded.deep; few = b.bounded.few; many = b.bounded.many; areas = b.bounded.areas; fits = b.bounded.fits };
  ends = b.ends;
}

-- none runs: what the running thread held is of live objects
pub stopped_beside : (i : Image) (s : State) (w : Clockwork) → Confined i s → Beside i s → Beside i (record s { running = None; pending = w.pending; devices = w.devices; time = w.time; picks = w.picks; counts = w.counts })
stopped_beside i s w h b = record {
  swept = record {
    granules = b.swept.granules;
    registers = λ t n idle passed. by_runner s.running refl t n passed;
    frames = b.swept.frames;
    idle = b.swept.idle;
  };
  bounded = record { deep = b.bounded.deep; few = b.bounded.few; many = b.bounded.many; areas = b.bounded.areas; fits = b.bounded.fits };
  ends = b.ends;
}
  where
    by_runner : (o : Option ℕ) → s.running ≡ o → (t n : ℕ) → IsPassed s.front (area_of i t - i.ram + 8 * n) → HasUnpainted i s.objects (register (thread s t) n)
    by_runner None is t n passed = b.swept.registers t n (λ runs. let clash : None ≡ Some t = sym is ∙ runs in cc) passed
    by_runner (Some u) is t n passed = elim (cases_eq u t) [
      | inl same ↦ λ tagged heap some. live_unpainted i s.next s.objects (register (thread s t) n) h.fits (h.live t (is ∙ ap (λ m. Some m) same) n tagged heap some)
      | inr other ↦ b.swept.registers t n (λ runs. other (let both : Some u ≡ Some t = sym is ∙ runs in cc)) passed
    ]
