-- What a step's beginning, ticks and sweeps leave: devices, frames, postures and the live objects.
use Rattle.std.proofs.Common.{ℕ, zero, suc, ◌≡◌, ◌+◌, ◌&&◌, arith, Bool, true, false, not, nat_eq, nat_le, cond, List, [], ◌∷◌, map, length, Option, Some, None, refl, sym, ap, ◌∙◌, subst}
use Rattle.std.proofs.Math.ListN.{get_or}
use Rattle.law_lists.proofs.Sets.{after_set_at}
use Rattle.law_lists.proofs.Tests.{chosen}
use Rattle.def_sched.specs.Picks.{pick}
use Rattle.def_words.specs.declared.Cap.{Cap}
use Rattle.def_machine.specs.Platform.{Platform}
use Rattle.def_machine.specs.Image.{Image}
use Rattle.def_machine.specs.Objects.{Each, charges, has_quarantined, painted, unpainted}
use Rattle.def_machine.specs.State.{State, Thread, Frame, Object, nobody, thread}
use Rattle.def_machine.specs.Slices.{kept_frames, kept_threads}
use Rattle.def_machine.specs.Threads.{timed, statuses_of, picked}
use Rattle.def_machine.specs.Heap.{area_offset, sliced, with_slice, slice_end, sweep_over, ram_size, sweep_began, sweep_on, swept}
use Rattle.def_confined.specs.Confined.{ObjectFits}
use Rattle.def_step.specs.Events.{preempted_from, preempted, picked_as, picked_from, one_more_step, interrupted}
use Rattle.def_safety.specs.Each.{ready}
use Rattle.def_truly.specs.Changes.{live_ones}

-- ---- a thread before and after: as many frames, the same posture

pub record Alike (old new : Thread) : Type 0 where
  pub size : length new.frames ≡ length old.frames
  pub posture : new.posture ≡ old.posture

alike : (x : Thread) → Alike x x
alike x = record { size = refl; posture = refl }

alike_twice : (x y z : Thread) → Alike x y → Alike y z → Alike x z
alike_twice x y z a b =
    record { size = b.size ∙ a.size; posture = b.posture ∙ a.posture }

abbrev pub AllAlike : State → State → Type 0
AllAlike s z = (u : ℕ) → Alike (thread s u) (thread z u)

timed_alike : (ts : List Thread) (u : ℕ) → Alike (get_or ts u nobody) (get_or (map timed ts) u nobody)
timed_alike [] u = alike nobody
timed_alike (x ∷ xs) zero = record { size = refl; posture = refl }
timed_alike (x ∷ xs) (suc u) = timed_alike xs u

kept_few : (keep : ℕ → Cap → Cap) (area : ℕ) (fs : List Frame) → length (kept_frames keep area fs) ≡ length fs
kept_few keep area [] = refl
kept_few keep area (f ∷ fs) = ap (λ n. suc n) (kept_few keep area fs)

kept_alike : (keep : ℕ → Cap → Cap) (area : ℕ → ℕ) (running : Option ℕ) (t : ℕ) (ts : List Thread) (u : ℕ) → Alike (get_or ts u nobody) (get_or (kept_threads keep area running t ts) u nobody)
kept_alike keep area running t [] u = alike nobody
kept_alike keep area running t (x ∷ xs) zero = record { size = kept_few keep (area t) x.frames; posture = refl }
kept_alike keep area running t (x ∷ xs) (suc u) = kept_alike keep area running (t + 1) xs u

-- ---- what is left where no thread carries on: no thread begins to run, and the heap's live rows stay

pub record Calm (s z : State) : Type 0 where
  pub threads : AllAlike s z
  pub runs : (t : ℕ) → z.running ≡ Some t → s.running ≡ Some t
  pub next : z.next ≡ s.next
  pub live : live_ones z.objects ≡ live_ones s.objects

pub calm : (s : State) → Calm s s
calm s = record { threads = λ u. alike (thread s u); runs = λ t e. e; next = refl; live = refl }

pub calm_twice : (x y z : State) → Calm x y → Calm y z → Calm x z
calm_twice x y z a b = record {
  threads = λ u. alike_twice (thread x u) (thread y u) (thread z u) (a.threads u) (b.threads u);
  runs = λ t e. a.runs t (b.runs t e);
  next = b.next ∙ a.next;
  live = b.live ∙ a.live;
}

-- ---- the beginning of a step

-- devices, frames, postures and rows of the state in which a thread carries on
pub record Readied (s z : State) : Type 0 where
  pub threads : AllAlike s z
  pub devices : z.devices ≡ s.devices
  pub next : z.next ≡ s.next
  pub objects : z.objects ≡ s.objects

readied : (s : State) → Readied s s
readied s = record { threads = λ u. alike (thread s u); devices = refl; next = refl; objects = refl }

readied_twice : (x y z : State) → Readied x y → Readied y z → Readied x z
readied_twice x y z a b = record {
  threads = λ u. alike_twice (thread x u) (thread y u) (thread z u) (a.threads u) (b.threads u);
  devices = b.devices ∙ a.devices;
  next = b.next ∙ a.next;
  objects = b.objects ∙ a.objects;
}

pub ready_is : (b : Platform) (s : State) → Readied s (ready b s)
ready_is b s = readied_twice s (preempted (one_more_step s)) (ready b s) (stopped (one_more_step s).running) (at_pick (preempted (one_more_step s)) (preempted (one_more_step s)).running)
  where
    at_choice : (z : State) (o : Option ℕ) → Readied z (picked_as b z o)
    at_choice z None = readied z
    at_choice z (Some t) = record {
      threads = λ u. after_set_at (λ n x. Alike (thread z n) x) z.threads t u (picked b.image z (thread z t)) nobody (record { size = refl; posture = refl }) (alike (thread z u));
      devices = refl;
      next = refl;
      objects = refl;
    }

    at_pick : (z : State) (o : Option ℕ) → Readied z (picked_from b z o)
    at_pick z None = at_choice z (pick b.image.priorities (statuses_of z.threads) z.picks)
    at_pick z (Some t) = readied z

    stopped : (o : Option ℕ) → Readied s (preempted_from (one_more_step s) o)
    stopped None = record { threads = λ u. alike (thread s u); devices = refl; next = refl; objects = refl }
    stopped (Some t) = chosen (Readied s) ((one_more_step s).pending && not (thread (one_more_step s) t).posture.off) (record (one_more_step s) { running = None; pending = false }) (one_more_step s)
        (λ is. record { threads = λ u. alike (thread s u); devices = refl; next = refl; objects = refl })
        (λ not. record { threads = λ u. alike (thread s u); devices = refl; next = refl; objects = refl })

-- ---- a tick

pub ticked_calm : (s z : State) → z.threads ≡ map timed s.threads → z.running ≡ s.running → z.next ≡ s.next → z.objects ≡ s.objects → (o : Option ℕ) → Calm s (interrupted z o)
ticked_calm s z threads running next objects o = calm_twice s z (interrupted z o) begins (by o)
  where
    begins : Calm s z
    begins = record {
      threads = λ u. subst (λ ts. Alike (thread s u) (get_or ts u nobody)) (sym threads) (timed_alike s.threads u);
      runs = λ t e. sym running ∙ e;
      next = next;
      live = ap live_ones objects;
    }

    by : (o : Option ℕ) → Calm z (interrupted z o)
    by None = calm z
    by (Some t) = chosen (Calm z) (thread z t).posture.off (record z { pending = true }) (record z { running = None })
        (λ is. record { threads = λ u. alike (thread z u); runs = λ t e. e; next = refl; live = refl })
        (λ not. record { threads = λ u. alike (thread z u); runs = λ t e. absurd (let clash : None ≡ Some t = e in cc); next = refl; live = refl })

-- ---- a sweep

-- no live object is painted
abbrev LivePlain : List Object → Type 0
LivePlain rs = Each (λ (r : Object). r.live ≡ true → r.painted ≡ false) rs

live_plain : (i : Image) (next : ℕ) (rs : List Object) → Each (ObjectFits i next) rs → LivePlain rs
live_plain i next [] h = tt
live_plain i next (r ∷ rs) h = (h.0.unpainted, live_plain i next rs h.1)

painted_plain : (rs : List Object) → LivePlain (painted rs)
painted_plain [] = tt
painted_plain (r ∷ rs) = (λ live. ap not live, painted_plain rs)

painted_live : (rs : List Object) → LivePlain rs → live_ones (painted rs) ≡ live_ones rs
painted_live [] h = refl
painted_live (r ∷ rs) h = by (painted_live rs h.1) r.live refl
  where
    by : live_ones (painted rs) ≡ live_ones rs → (l : Bool) → r.live ≡ l → cond l (record r { painted = not r.live } ∷ live_ones (painted rs)) (live_ones (painted rs)) ≡ cond l (r ∷ live_ones rs) (live_ones rs)
    by rest false is = rest
    by rest true is =
        let same : record r { painted = not r.live } ≡ r = ap (λ p. record r { painted = p }) (ap not is ∙ sym (h.0 is)) in
        ap (λ (q : Object). q ∷ live_ones (painted rs)) same ∙ ap (λ (qs : List Object). r ∷ qs) rest

unpainted_live : (rs : List Object) → LivePlain rs → live_ones (unpainted rs) ≡ live_ones rs
unpainted_live [] h = refl
unpainted_live (r ∷ rs) h = by (unpainted_live rs h.1) r.painted refl
  where
    gone : r.painted ≡ true → (l : Bool) → r.live ≡ l → live_ones rs ≡ cond l (r ∷ live_ones rs) (live_ones rs)
    gone is true live = absurd (let clash : true ≡ false = sym is ∙ h.0 live in cc)
    gone is false live = refl

    by : live_ones (unpainted rs) ≡ live_ones rs → (p : Bool) → r.painted ≡ p → live_ones (cond p (unpainted rs) (r ∷ unpainted rs)) ≡ cond r.live (r ∷ live_ones rs) (live_ones rs)
    by rest true is = rest ∙ gone is r.live refl
    by rest false is = ap (λ (qs : List Object). cond r.live (r ∷ qs) qs) rest

pub live_charges : (q : ℕ) (rs : List Object) → charges q rs ≡ charges q (live_ones rs)
live_charges q [] = refl
live_charges q (r ∷ rs) = by (live_charges q rs) r.live refl
  where
    by : charges q rs ≡ charges q (live_ones rs) → (l : Bool) → r.live ≡ l → cond (r.live && nat_eq r.quota q) r.charge 0 + charges q rs ≡ charges q (cond l (r ∷ live_ones rs) (live_ones rs))
    by rest true is = ap (λ n. cond (r.live && nat_eq r.quota q) r.charge 0 + n) rest
    by rest false is = rw is (omega (arith, rest))

module _ (i : Image) where
  on_calm : (z : State) (o : Option ℕ) → LivePlain z.objects → Calm z (sweep_on i z o)
  on_calm z None plain = calm z
  on_calm z (Some front) plain = chosen (Calm z) (nat_le (ram_size (with_slice i z front (slice_end i z front))) (slice_end i z front)) (sweep_over i (with_slice i z front (slice_end i z front))) (with_slice i z front (slice_end i z front))
      (λ is. record { threads = threads; runs = λ t e. e; next = refl; live = unpainted_live z.objects plain })
      (λ not. record { threads = threads; runs = λ t e. e; next = refl; live = refl })
    where
      threads : (u : ℕ) → Alike (thread z u) (get_or (kept_threads (sliced i z front (slice_end i z front)) (area_offset i) z.running 0 z.threads) u nobody)
      threads u = kept_alike (sliced i z front (slice_end i z front)) (area_offset i) z.running 0 z.threads u

  pub swept_calm : (z : State) → (next : ℕ) → Each (ObjectFits i next) z.objects → Calm z (swept i z)
  swept_calm z next fits = by z.front
    where
      plain : LivePlain z.objects
      plain = live_plain i next z.objects fits

      by : (o : Option ℕ) → Calm z (sweep_on i (sweep_began z o) (sweep_began z o).front)
      by (Some front) = on_calm z z.front plain
      by None = chosen (λ (y : State). Calm z (sweep_on i y y.front)) (has_quarantined z.objects) (record z { objects = painted z.objects; front = Some 0 }) z
          (λ is. (let y : State = record z { objects = painted z.objects; front = Some 0 } in
          calm_twice z y (sweep_on i y (Some 0)) (record { threads = λ u. alike (thread z u); runs = λ t e. e; next = refl; live = painted_live z.objects plain }) (on_calm y (Some 0) (painted_plain z.objects))))
          (λ not. on_calm z z.front plain)
