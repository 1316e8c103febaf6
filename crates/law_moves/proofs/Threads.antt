-- Moves of one thread: a register, a status, a push.
use Rattle.std.proofs.Common.{ℕ, zero, suc, ◌≡◌, ◌+◌, ◌-◌, ◌*◌, ◌≤◌, true, false, List, [], ◌∷◌, length, Some, None, refl, sym, ◌∙◌, arith}
use Rattle.std.proofs.lemmas.List.{length-set}
use Rattle.law_lists.proofs.Sets.{after_set, after_set_at}
use Rattle.law_granules.proofs.Lists.{zeroed_at, zeroed_length}
use Rattle.def_words.specs.declared.Cap.{Cap}
use Rattle.def_memory.specs.Ranges.{zeroed_from}
use Rattle.def_sched.specs.declared.Status.{Status}
use Rattle.def_machine.specs.Image.{Image, area_of, frames_most, stack_base}
use Rattle.def_machine.specs.State.{State, Thread, Frame, thread, register, nobody}
use Rattle.def_machine.specs.Frames.{Given, switched, entered, pushed_frame}
use Rattle.def_machine.specs.Registers.{written, with_registers, put_register}
use Rattle.def_machine.specs.Threads.{Clockwork, changed, with_status}
use Rattle.def_confined.specs.Changes.{Puts}
use Rattle.def_confined.specs.Holding.{EndFits}
use Rattle.def_confined.specs.Keeps.{Beside, Keeps}
use Rattle.def_confined.specs.Partitioned.{Partitioned}
use Rattle.def_confined.specs.Swept.{HasUnpainted, IsPassed, FramesSwept, Swept}
use Rattle.law_moves.proofs.Turns.{clock_of}
use Rattle.law_moves.proofs.Moves.{put_confined}
use Rattle.law_moves.proofs.TurnsMoves.{turn_confined}
use Rattle.law_moves.proofs.Pushes.{push_confined}
use Rattle.law_moves.proofs.Slices.{live_unpainted}
use Rattle.law_moves.proofs.SweepsMoves.{RamLeft, ram_same, running_left, moved_beside}
use Rattle.def_confined.specs.Premises.{HasRoom, Turns}

-- ---- a register

pub written_length : (rs : List Cap) (n : ℕ) (c : Cap) → length (written rs n c) ≡ length rs
written_length rs zero c = refl
written_length rs (suc n) c = length-set rs (suc n) c

-- the running thread's registers change: they have no place that a sweep passes
pub registers_beside : (i : Image) (s : State) (t : ℕ) (rs : List Cap) → s.running ≡ Some t → length rs ≤ 16 → Beside i s → Beside i (with_registers s t rs)
registers_beside i s t rs runs few h = moved_beside i s t s.granules (record (thread s t) { registers = rs }) s.running (clock_of s) (ram_same i s)
    (running_left i s t (record (thread s t) { registers = rs }) runs refl few (λ e. record { over = e.over; none = e.none }) h)
    h

pub put_beside : (i : Image) (s : State) (t n : ℕ) (c : Cap) → s.running ≡ Some t → Beside i s → Beside i (put_register s t n c)
put_beside i s t n c runs h = registers_beside i s t (written (thread s t).registers n c) runs (omega (arith, h.bounded.few t, written_length (thread s t).registers n c)) h

pub put_keeps : (i : Image) (s : State) (t n : ℕ) (c : Cap) → Keeps i s → s.running ≡ Some t → Puts i s t c → Keeps i (put_register s t n c)
put_keeps i s t n c k runs x = record { confined = put_confined i s t n c k.confined x; beside = put_beside i s t n c runs k.beside }

-- ---- a status

with_status_ends : (s : State) (t : ℕ) (status : Status) → Turns s t status → EndFits (with_status (thread s t) status)
with_status_ends s t status x = record { over = λ e. absurd (x.goes_on e); none = λ e. absurd (x.frames e) }

pub stop_keeps : (i : Image) (s : State) (t : ℕ) (status : Status) (w : Clockwork) → Keeps i s → s.running ≡ Some t → Turns s t status → Keeps i (changed s t (with_status (thread s t) status) None w)
stop_keeps i s t status w k runs x = record {
  confined = turn_confined i s t status None w k.confined (λ u is. absurd (let clash : None ≡ Some u = is in cc));
  beside = moved_beside i s t s.granules (with_status (thread s t) status) None w (ram_same i s)
      (record {
        sweeps = λ h. record {
          frames = h.frames t;
          registers = λ idle n tagged heap some. live_unpainted i s.next s.objects (register (thread s t) n) k.confined.fits (k.confined.live t runs n tagged heap some);
          others = λ u other idle is. other (let same : Some t ≡ Some u = sym runs ∙ is in cc);
        };
        deep = k.beside.bounded.deep t;
        few = k.beside.bounded.few t;
        ends = λ e. with_status_ends s t status x;
      })
      k.beside;
}

-- of any thread: its places hold what they held
pub status_swept : (i : Image) (s : State) (t : ℕ) (status : Status) (w : Clockwork) → Swept i s → Swept i (changed s t (with_status (thread s t) status) s.running w)
status_swept i s t status w h = record {
  granules = h.granules;
  registers = λ u n idle passed. after_set_at (λ m (th : Thread). (s.running ≡ Some m → ⊥) → IsPassed s.front (area_of i m - i.ram + 8 * n) → HasUnpainted i s.objects (register th n)) s.threads t u (with_status (thread s t) status) nobody
      (h.registers t n) (h.registers u n) idle passed;
  frames = λ u. after_set_at (λ m (th : Thread). FramesSwept i s.objects s.front (area_of i m - i.ram) th.frames) s.threads t u (with_status (thread s t) status) nobody (h.frames t) (h.frames u);
  idle = h.idle;
}

pub status_keeps : (i : Image) (s : State) (t : ℕ) (status : Status) (w : Clockwork) → Keeps i s → Turns s t status → Keeps i (changed s t (with_status (thread s t) status) s.running w)
status_keeps i s t status w k x = record {
  confined = turn_confined i s t status s.running w k.confined (λ u is. is);
  beside = record {
    swept = status_swept i s t status w k.beside.swept;
    bounded = record {
      deep = λ u. after_set_at (λ n (th : Thread). length th.frames ≤ frames_most i n) s.threads t u (with_status (thread s t) status) nobody (k.beside.bounded.deep t) (k.beside.bounded.deep u);
      few = λ u. after_set (λ (th : Thread). length th.registers ≤ 16) s.threads t u (with_status (thread s t) status) nobody (k.beside.bounded.few t) (k.beside.bounded.few u);
      many = omega (arith, k.beside.bounded.many, length-set s.threads t (with_status (thread s t) status));
      areas = k.beside.bounded.areas;
      fits = k.beside.bounded.fits;
    };
    ends = λ u. after_set EndFits s.threads t u (with_status (thread s t) status) nobody (with_status_ends s t status x) (k.beside.ends u);
  };
}

-- ---- a push

pub zeroed_left : (i : Image) (s : State) (t high : ℕ) → RamLeft i s (zeroed_from (stack_base i t) high i.ram s.granules)
zeroed_left i s t high = record {
  size = zeroed_length (stack_base i t) high i.ram s.granules;
  swept = λ h k passed. zeroed_at (stack_base i t) high i.ram s.granules k (λ g. HasUnpainted i s.objects g.cap) (λ low below tagged. absurd (let clash : false ≡ true = tagged in cc)) (λ outside. h.granules k passed);
}

-- what the running thread saves is of live objects, wherever the sweep is
pub push_keeps : (i : Image) (s : State) (t : ℕ) (g : Frame) (gs : List Frame) (callee export high : ℕ) (w : Given) → Partitioned i → Keeps i s → HasRoom i s t g gs callee export high w
    → Keeps i (switched i s t high (entered i (thread s t) callee export high w) s.running)
push_keeps i s t g gs callee export high w parts k x = record {
  confined = push_confined i s t g gs callee export high w parts k.confined x.enters;
  beside = moved_beside i s t (zeroed_from (stack_base i t) high i.ram s.granules) (entered i (thread s t) callee export high w) s.running (clock_of s) (zeroed_left i s t high)
      (record {
        sweeps = λ h. record {
          frames = (record { c1 = λ p. saved 1; c2 = λ p. saved 2; c3 = λ p. saved 3; c8 = λ p. saved 8; c9 = λ p. saved 9 }, h.frames t);
          registers = λ idle. absurd (idle x.enters.call.running);
          others = λ u other idle is. idle is;
        };
        deep = let room = x.room in omega (arith, room);
        few = omega arith;
        ends = λ e. record {
          over = λ is. absurd (let clash : (g ∷ gs) ≡ [] = sym x.enters.call.caller ∙ e.over is in cc);
          none = λ is. absurd (let clash : (pushed_frame (thread s t) callee export high ∷ (thread s t).frames) ≡ [] = is in cc);
        };
      })
      k.beside;
}
  where
    saved : (n : ℕ) → HasUnpainted i s.objects (register (thread s t) n)
    saved n tagged heap some = live_unpainted i s.next s.objects (register (thread s t) n) k.confined.fits (k.confined.live t x.enters.call.running n tagged heap some)
