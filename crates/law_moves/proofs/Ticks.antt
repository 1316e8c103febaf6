-- Threads get other statuses, and nothing else of them changes: so at a tick, where threads sleep.
use Rattle.std.proofs.Common.{ℕ, zero, suc, ◌≡◌, ◌-◌, ◌==◌, ◌≤◌, inr, List, [], ◌∷◌, map, length, refl, sym, subst, arith}
use Rattle.std.proofs.Math.ListN.{get_or}
use Rattle.std.proofs.lemmas.List.{length-map}
use Rattle.law_lists.proofs.Tests.{chosen}
use Rattle.def_sched.specs.declared.Status.{Status}
use Rattle.def_sched.specs.declared.Status.TheVariants.{Ready, Sleeping, Waiting, Ended}
use Rattle.def_sched.specs.Statuses.{after_tick}
use Rattle.def_machine.specs.Image.{Image, area_of, frames_most}
use Rattle.def_machine.specs.State.{State, Thread, Frame, Object, thread, register, nobody}
use Rattle.def_machine.specs.Threads.{timed, with_status}
use Rattle.def_confined.specs.Places.{HasLive}
use Rattle.def_confined.specs.Confined.{Confined}
use Rattle.def_confined.specs.Changes.{FramesFade, ThreadFades, StateFades}
use Rattle.def_confined.specs.Holding.{EndFits}
use Rattle.def_confined.specs.Keeps.{Keeps}
use Rattle.def_confined.specs.Swept.{HasUnpainted, FramesSwept}
use Rattle.law_moves.proofs.Fades.{faded_confined}

-- every thread gets a status in which it fits, and nothing else of any changes
pub record Restatused (s : State) (ts : List Thread) : Type 0 where
  pub each : (t : ℕ) → (x : Status) × (get_or ts t nobody ≡ with_status (thread s t) x)
  pub ends : (t : ℕ) → EndFits (get_or ts t nobody)
  pub many : length ts ≡ length s.threads

-- what holds of a thread with any status holds of it then
after : (P : Thread → Type 0) (s : State) (ts : List Thread) (t : ℕ) → Restatused s ts → ((x : Status) → P (with_status (thread s t) x)) → P (get_or ts t nobody)
after P s ts t r h = let one = r.each t in subst P (sym one.1) (h one.0)

pub same_frames : (i : Image) (objects : List Object) (fs : List Frame) → FramesFade i objects objects fs fs
same_frames i objects [] = tt
same_frames i objects (f ∷ fs) = (
  record {
    actor = refl;
    export = refl;
    same_top = refl;
    c1 = inr (refl, λ t h. h);
    c2 = inr (refl, λ t h. h);
    c3 = inr (refl, λ t h. h);
    c8 = inr (refl, λ t h. h);
    c9 = inr (refl, λ t h. h);
    returns = λ tagged is rooted. refl;
  },
  same_frames i objects fs,
)

restatused_fades : (i : Image) (s : State) (ts : List Thread) → Restatused s ts → Confined i s → StateFades i s (record s { threads = ts })
restatused_fades i s ts r h = record {
  caps = λ k. inr (refl, λ t x. x);
  fixed = λ k is same. refl;
  domains = λ k tagged d. ((λ x. x), (λ x. x));
  threads = λ t. after (λ th. ThreadFades i s.objects s.objects (thread s t) th) s ts t r (λ x. record {
    pcc = inr (refl, λ tagged x. x);
    registers = λ n. inr (refl, λ tagged x. x);
    frames = same_frames i s.objects (thread s t).frames;
    posture = refl;
  });
  live = λ t runs n. after (λ th. HasLive i s.objects (register th n)) s ts t r (λ x. h.live t runs n);
  apart = h.apart;
  numbered = h.numbered;
  fits = h.fits;
  marks = h.marks;
  limits = h.limits;
  size = refl;
}

pub restatused_keeps : (i : Image) (s : State) (ts : List Thread) → Restatused s ts → Keeps i s → Keeps i (record s { threads = ts })
restatused_keeps i s ts r k =
    let w = k.beside.swept in
    let b = k.beside.bounded in
    record {
      confined = faded_confined i s (record s { threads = ts }) k.confined (restatused_fades i s ts r k.confined);
      beside = record {
        swept = record {
          granules = w.granules;
          registers = λ t n stops passed. after (λ th. HasUnpainted i s.objects (register th n)) s ts t r (λ x. w.registers t n stops passed);
          frames = λ t. after (λ th. FramesSwept i s.objects s.front (area_of i t - i.ram) th.frames) s ts t r (λ x. w.frames t);
          idle = w.idle;
        };
        bounded = record {
          deep = λ t. after (λ th. length th.frames ≤ frames_most i t) s ts t r (λ x. b.deep t);
          few = λ t. after (λ th. length th.registers ≤ 16) s ts t r (λ x. b.few t);
          many = omega (arith, b.many, r.many);
          areas = b.areas;
          fits = b.fits;
        };
        ends = r.ends;
      };
    }

-- ---- a tick

pub timed_at : (ts : List Thread) (t : ℕ) → get_or (map timed ts) t nobody ≡ timed (get_or ts t nobody)
timed_at [] t = refl
timed_at (x ∷ xs) zero = refl
timed_at (x ∷ xs) (suc t) = timed_at xs t

asleep_goes : (n : ℕ) → after_tick (Sleeping n) ≡ Ended → ⊥
asleep_goes n = chosen (λ (x : Status). x ≡ Ended → ⊥) (n - 1 == 0) Ready (Sleeping (n - 1)) (λ is e. let clash : Ready ≡ Ended = e in cc) (λ is e. let clash : Sleeping (n - 1) ≡ Ended = e in cc)

tick_over : (x : Status) → after_tick x ≡ Ended → x ≡ Ended
tick_over Ready e = e
tick_over (Sleeping n) e = absurd (asleep_goes n e)
tick_over (Waiting address) e = absurd (let clash : Waiting address ≡ Ended = e in cc)
tick_over Ended e = refl

timed_ends : (t : Thread) → EndFits t → EndFits (timed t)
timed_ends t h = record {
  over = λ e. h.over (tick_over t.status e);
  none = λ e. (subst (λ x. after_tick x ≡ Ended) (sym (h.none e).0) refl, (h.none e).1);
}

pub timed_keeps : (i : Image) (s : State) → Keeps i s → Keeps i (record s { threads = map timed s.threads })
timed_keeps i s k = restatused_keeps i s (map timed s.threads)
    (record {
      each = λ t. (after_tick (thread s t).status, timed_at s.threads t);
      ends = λ t. subst EndFits (sym (timed_at s.threads t)) (timed_ends (thread s t) (k.beside.ends t));
      many = length-map s.threads timed;
    })
    k
