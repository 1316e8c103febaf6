-- Whose turn it is: what a step begins with, and what a tick leaves, by what they are.
use Rattle.std.proofs.Common.{ℕ, zero, suc, ◌≡◌, ◌+◌, ◌-◌, ◌==◌, ◌≤◌, ◌<◌, ◌⊎◌, ◌↔◌, inl, inr, ◌&&◌, arith, Bool, true, false, not, nat_le, List, [], ◌∷◌, map, length, Option, Some, None, refl, sym, ap, ◌∙◌, subst}
use Rattle.std.specs.List.{Contains}
use Rattle.std.proofs.Math.ListN.{get_or}
use Rattle.std.proofs.lemmas.Bool.{cases_Bool, cases_order, eqb-true}
use Rattle.std.proofs.lemmas.List.{get_or_default, get_or-set_same}
use Rattle.law_lists.proofs.Finds.{IsFirst, find_is, find_tells}
use Rattle.law_lists.proofs.Sets.{after_set_at}
use Rattle.law_lists.proofs.Tests.{both_left, both_right, chosen}
use Rattle.def_sched.specs.declared.Status.{Status}
use Rattle.def_sched.specs.declared.Status.TheVariants.{Ready, Sleeping, Waiting, Ended}
use Rattle.def_sched.specs.Picks.{is_foremost, moved_last, pick, priority_of}
use Rattle.def_sched.specs.Statuses.{after_tick, asleep, is_ready, status_of}
use Rattle.def_machine.specs.Heap.{slice_end, sweep_began, sweep_on, sweep_over, ram_size, with_slice}
use Rattle.def_machine.specs.Image.{Image}
use Rattle.def_machine.specs.Objects.{has_quarantined, painted}
use Rattle.def_machine.specs.Platform.{Platform}
use Rattle.def_machine.specs.State.{State, Thread, nobody, thread}
use Rattle.def_machine.specs.Threads.{picked, statuses_of, timed}
use Rattle.def_step.specs.Events.{interrupted, one_more_step, picked_as, picked_from, preempted_from, scheduled}
use Rattle.def_truly.specs.Turns.{GoesOn, HoldsOff, IsNext, IsPicked, IsReady, IsStopped, NoneGoesOn, NoneIsReady, TakesTurn, TicksStop, SameTurn, OneTickLess, ThreadTicked, TickTaken, TurnTaken, TurnsStay}
use Rattle.law_sched.proofs.Picks.{foremost_is, foremost_ready, foremost_tells, no_pick_is_idle}
use Rattle.law_moves.proofs.Ticks.{timed_at}
use Rattle.law_events.proofs.Waiting.{status_at}

-- ---- statuses

ready_told : (x : Status) → is_ready x ≡ true → x ≡ Ready
ready_told Ready e = refl
ready_told (Sleeping ticks) e = absurd (let clash : false ≡ true = e in cc)
ready_told (Waiting address) e = absurd (let clash : false ≡ true = e in cc)
ready_told Ended e = absurd (let clash : false ≡ true = e in cc)

-- a thread that is ready is there
there : (ts : List Thread) (t : ℕ) → (get_or ts t nobody).status ≡ Ready → t < length ts
there [] t e = absurd (let clash : Ended ≡ Ready = e in cc)
there (x ∷ xs) zero e = omega arith
there (x ∷ xs) (suc t) e = (let later = there xs t e in omega (arith, later))

off_not : (off : Bool) → not off ≡ true → off ≡ false
off_not true e = absurd (let clash : false ≡ true = e in cc)
off_not false e = refl

-- ---- the scheduler's choice

module _ (b : Platform) (s : State) where
  abbrev statuses : List Status
  statuses = statuses_of s.threads

  abbrev priorities : List ℕ
  priorities = b.image.priorities

  abbrev foremost : ℕ → Bool
  foremost = is_foremost priorities statuses s.picks

  to_ready : (u : ℕ) → is_ready (status_of statuses u) ≡ true → IsReady s u
  to_ready u e = ready_told (thread s u).status (subst (λ x. is_ready x ≡ true) (status_at s.threads u) e)

  from_ready : (u : ℕ) → IsReady s u → is_ready (status_of statuses u) ≡ true
  from_ready u e = ap is_ready (status_at s.threads u ∙ e)

  -- a ready thread that no ready one exceeds is foremost
  stands_foremost : (t most : ℕ) → IsReady s t → ((u : ℕ) → Contains s.picks u → IsReady s u → priority_of priorities u ≤ most) → most ≤ priority_of priorities t → foremost t ≡ true
  stands_foremost t most is greatest below = foremost_is priorities statuses s.picks t (from_ready t is)
      (λ k d inside up. (let low = greatest (get_or s.picks k d) (k, inside, get_or_default s.picks k _ d inside) (to_ready (get_or s.picks k d) up) in omega (arith, low, below)))

  pub to_next : (t : ℕ) → pick priorities statuses s.picks ≡ Some t → IsNext b.image s t
  to_next t found =
      let is : IsFirst foremost s.picks t = find_tells foremost s.picks t found in
      let greatest : (u : ℕ) → Contains s.picks u → IsReady s u → priority_of priorities u ≤ priority_of priorities t = λ u c up. foremost_tells priorities statuses s.picks t u is.passes c (from_ready u up) in
      record {
        stands = (is.place, is.inside, is.is);
        is_ready = to_ready t (foremost_ready priorities statuses s.picks t is.passes);
        greatest = greatest;
        first = λ u c below up.
            elim (cases_order (priority_of priorities u) (priority_of priorities t)) [
              | inl same ↦
                  let no : foremost u ≡ false = subst (λ v. foremost v ≡ false) (get_or_default s.picks c.0 t u c.1 ∙ c.2) (is.before c.0 below) in
                  let yes_too : foremost u ≡ true = stands_foremost u (priority_of priorities t) up greatest (omega (arith, same)) in
                  absurd (let clash : false ≡ true = sym no ∙ yes_too in cc)
              | inr (inl less) ↦ less
              | inr (inr more) ↦ (let most = greatest u c up in absurd (omega (arith, most, more)))
            ];
      }

  pub from_next : (t : ℕ) → IsNext b.image s t → pick priorities statuses s.picks ≡ Some t
  from_next t n = find_is foremost s.picks t (record {
    place = n.stands.0;
    inside = n.stands.1;
    is = n.stands.2;
    passes = stands_foremost t (priority_of priorities t) n.is_ready n.greatest (omega arith);
    before = λ k below. elim (cases_Bool (foremost (get_or s.picks k t))) [
      | inr fails ↦ fails
      | inl foremost_too ↦
          let u : ℕ = get_or s.picks k t in
          let inside : k < length s.picks = (let end = n.stands.1 in omega (arith, below, end)) in
          let c : Contains s.picks u = (k, inside, get_or_default s.picks k _ t inside) in
          let less = n.first u c below (to_ready u (foremost_ready priorities statuses s.picks u foremost_too)) in
          let more = foremost_tells priorities statuses s.picks u t foremost_too n.stands (from_ready t n.is_ready) in
          absurd (omega (arith, less, more))
    ];
  })

  none_next : pick priorities statuses s.picks ≡ None → NoneIsReady s
  none_next none u c up =
      let no : is_ready (status_of statuses u) ≡ false = subst (λ v. is_ready (status_of statuses v) ≡ false) (get_or_default s.picks c.0 0 u c.1 ∙ c.2) (no_pick_is_idle priorities statuses s.picks none c.0 c.1) in
      (let clash : false ≡ true = sym no ∙ from_ready u up in cc)

  -- ---- the beginning of a step

  -- the state in which the thread carries on that runs so, with a tick pending or not
  abbrev before_turn : Option ℕ → Bool → State
  before_turn o p = record (one_more_step s) { running = o; pending = p }

  -- whether a tick is pending still
  abbrev Pends : Bool → Type 0
  Pends p = (p ≡ true) ↔ ((s.pending ≡ true) × ((t : ℕ) → IsStopped s t → ⊥))

  pends_on : ((t : ℕ) → IsStopped s t → ⊥) → Pends s.pending
  pends_on none = (λ e. (e, none), λ h. h.0)

  same_one : {G : Type 0} (t u : ℕ) → Some t ≡ Some u → (t ≡ u → G) → G
  same_one t u e h = h (let same : t ≡ u = cc in same)

  going : (t : ℕ) → GoesOn s t → Pends s.pending → TurnTaken b s (before_turn (Some t) s.pending)
  going t g pends = record {
    runs = λ u. (
      λ e. same_one t u e (λ same. inl (subst (GoesOn s) same g)),
      λ h. elim h [ inl other ↦ sym g.runs ∙ other.runs | inr next ↦ absurd (next.0 t g) ],
    );
    idle = (λ e. absurd (let clash : Some t ≡ None = e in cc), λ h. absurd (h.0 t g));
    pending = pends;
    others = λ u none. refl;
    filters = λ u next. absurd (next.0 t g);
    last = λ u next. absurd (next.0 t g);
    order = λ none. refl;
    time = refl;
    rest = record { granules = refl; objects = refl; next = refl; tokens = refl; front = refl; devices = refl };
  }

  idling : (p : Bool) → NoneGoesOn s → NoneIsReady s → Pends p → TurnTaken b s (before_turn None p)
  idling p none idle pends = record {
    runs = λ u. (
      λ e. absurd (let clash : None ≡ Some u = e in cc),
      λ h. elim h [ inl g ↦ absurd (none u g) | inr next ↦ absurd (idle u next.1.stands next.1.is_ready) ],
    );
    idle = (λ e. (none, idle), λ h. refl);
    pending = pends;
    others = λ u not. refl;
    filters = λ u next. absurd (idle u next.1.stands next.1.is_ready);
    last = λ u next. absurd (idle u next.1.stands next.1.is_ready);
    order = λ not. refl;
    time = refl;
    rest = record { granules = refl; objects = refl; next = refl; tokens = refl; front = refl; devices = refl };
  }

  picking : (p : Bool) (t : ℕ) → NoneGoesOn s → IsNext b.image s t → Pends p → TurnTaken b s (picked_as b (before_turn None p) (Some t))
  picking p t none next pends =
      let only = λ (u : ℕ) (other : IsNext b.image s u). (let both : Some t ≡ Some u = sym (from_next t next) ∙ from_next u other in both) in
      record {
        runs = λ u. (
          λ e. same_one t u e (λ same. inr (none, subst (IsNext b.image s) same next)),
          λ h. elim h [ inl g ↦ absurd (none u g) | inr other ↦ only u other.1 ],
        );
        idle = (λ e. absurd (let clash : Some t ≡ None = e in cc), λ h. absurd (h.1 t next.stands next.is_ready));
        pending = pends;
        others = λ u apart. after_set_at (λ n (x : Thread). (IsPicked b.image s n → ⊥) → x ≡ thread s n) s.threads t u (picked b.image s (thread s t)) nobody (λ apart. absurd (apart (none, next))) (λ apart. refl) apart;
        filters = λ u other. same_one t u (only u other.1) (λ same.
            subst (λ n. thread (picked_as b (before_turn None p) (Some t)) n ≡ picked b.image s (thread s n)) same
            (get_or-set_same s.threads t (picked b.image s (thread s t)) nobody (there s.threads t next.is_ready)));
        last = λ u other. same_one t u (only u other.1) (λ same. subst (λ n. moved_last t s.picks ≡ moved_last n s.picks) same refl);
        order = λ nobody_is. absurd (nobody_is t (none, next));
        time = refl;
        rest = record { granules = refl; objects = refl; next = refl; tokens = refl; front = refl; devices = refl };
      }

  choosing : (p : Bool) → NoneGoesOn s → Pends p → (o : Option ℕ) → pick priorities statuses s.picks ≡ o → TurnTaken b s (picked_as b (before_turn None p) o)
  choosing p none pends None is = idling p none (none_next is) pends
  choosing p none pends (Some t) is = picking p t none (to_next t is) pends

  goes_by : (t : ℕ) → s.running ≡ Some t → (s.pending && not (thread s t).posture.off) ≡ false → GoesOn s t
  goes_by t runs not_due = record {
    runs = runs;
    undisturbed = elim (cases_Bool s.pending) [
      | inr none ↦ inl none
      | inl is ↦ elim (cases_Bool (thread s t).posture.off) [
        | inl off ↦ inr off
        | inr on ↦ absurd (let clash : true ≡ false = (rw (is, on) refl) ∙ not_due in cc)
      ]
    ];
  }

  -- who stops is the one that runs, and doesn't go on
  not_both : (t u : ℕ) → GoesOn s t → IsStopped s u → ⊥
  not_both t u g stopped = same_one t u (sym g.runs ∙ stopped.runs) (λ same.
      elim g.undisturbed [
        | inl none ↦ (let clash : true ≡ false = sym stopped.pending ∙ none in cc)
        | inr off ↦ (let on : (thread s t).posture.off ≡ false = subst (λ n. (thread s n).posture.off ≡ false) (sym same) stopped.on in (let clash : true ≡ false = sym off ∙ on in cc))
      ])

  pub takes_turn : TakesTurn b s
  takes_turn = by s.running refl
    where
      idle_none : s.running ≡ None → (t : ℕ) → s.running ≡ Some t → ⊥
      idle_none idle t runs = (let clash : None ≡ Some t = sym idle ∙ runs in cc)

      by : (o : Option ℕ) → s.running ≡ o → TurnTaken b s (scheduled b (preempted_from (one_more_step s) o))
      by None idle = subst (λ (o : Option ℕ). TurnTaken b s (picked_from b (before_turn o s.pending) o)) (sym idle)
          (choosing s.pending (λ t g. idle_none idle t g.runs) (pends_on (λ t stopped. idle_none idle t stopped.runs)) (pick priorities statuses s.picks) refl)
      by (Some t) runs = chosen (λ (z : State). TurnTaken b s (scheduled b z)) (s.pending && not (thread s t).posture.off) (before_turn None false) (one_more_step s)
          (λ due.
          let pends : s.pending ≡ true = both_left s.pending (not (thread s t).posture.off) due in
          let on : (thread s t).posture.off ≡ false = off_not (thread s t).posture.off (both_right s.pending (not (thread s t).posture.off) due) in
          let stopped : IsStopped s t = record { runs = runs; pending = pends; on = on } in
          choosing false (λ u g. not_both u t g stopped) (λ e. absurd (let clash : false ≡ true = e in cc), λ h. absurd (h.1 t stopped)) (pick priorities statuses s.picks) refl)
          (λ not_due.
          let g : GoesOn s t = goes_by t runs not_due in
          subst (λ (o : Option ℕ). TurnTaken b s (picked_from b (before_turn o s.pending) o)) (sym runs) (going t g (pends_on (λ u stopped. not_both t u g stopped))))

-- ---- a tick

-- a status after a tick
one_tick_less : (x : Status) → OneTickLess x (after_tick x)
one_tick_less Ready = record { shorter = λ n e many. absurd (let clash : Ready ≡ Sleeping n = e in cc); over = λ n e few. absurd (let clash : Ready ≡ Sleeping n = e in cc); stays = λ none. refl }
one_tick_less (Waiting address) = record { shorter = λ n e many. absurd (let clash : Waiting address ≡ Sleeping n = e in cc); over = λ n e few. absurd (let clash : Waiting address ≡ Sleeping n = e in cc); stays = λ none. refl }
one_tick_less Ended = record { shorter = λ n e many. absurd (let clash : Ended ≡ Sleeping n = e in cc); over = λ n e few. absurd (let clash : Ended ≡ Sleeping n = e in cc); stays = λ none. refl }
one_tick_less (Sleeping ticks) = record {
  shorter = λ n e many.
      let same : ticks ≡ n = (let both : Sleeping ticks ≡ Sleeping n = e in cc) in
      chosen (λ (x : Status). x ≡ Sleeping (n - 1)) (ticks - 1 == 0) Ready (Sleeping (ticks - 1))
      (λ is. let left : ticks - 1 ≡ 0 = eqb-true (ticks - 1) 0 is in absurd (omega (arith, many, same, left)))
      (λ more. ap (λ k. Sleeping (k - 1)) same);
  over = λ n e few.
      let same : ticks ≡ n = (let both : Sleeping ticks ≡ Sleeping n = e in cc) in
      let none : ticks - 1 ≡ 0 = omega (arith, few, same) in
      ap asleep none;
  stays = λ none. absurd (none ticks refl);
}

thread_ticked : (t : Thread) → ThreadTicked t (timed t)
thread_ticked t = record { status = one_tick_less t.status; pcc = refl; registers = refl; frames = refl; posture = refl }

module _ (b : Platform) (s : State) where
  abbrev clocked : Option ℕ → Bool → State
  clocked o p = record s { threads = map timed s.threads; time = s.time + 1; counts = record s.counts { ticks = s.counts.ticks + 1 }; running = o; pending = p }

  tick_taken : (o : Option ℕ) (p : Bool) → ((t : ℕ) → (o ≡ Some t) ↔ HoldsOff s t) → ((p ≡ true) ↔ ((s.pending ≡ true) ⊎ ((t : ℕ) × HoldsOff s t))) → TickTaken s (clocked o p)
  tick_taken o p runs pends = record {
    runs = runs;
    pending = pends;
    threads = λ u. subst (ThreadTicked (thread s u)) (sym (timed_at s.threads u)) (thread_ticked (thread s u));
    picks = refl;
    time = refl;
    rest = record { granules = refl; objects = refl; next = refl; tokens = refl; front = refl; devices = refl };
  }

  off_at : (t : ℕ) → (get_or (map timed s.threads) t nobody).posture.off ≡ (thread s t).posture.off
  off_at t = ap (λ (x : Thread). x.posture.off) (timed_at s.threads t)

  -- none holds interrupts off, and none runs then
  stops_all : ((t : ℕ) → HoldsOff s t → ⊥) → TickTaken s (clocked None s.pending)
  stops_all none = tick_taken None s.pending (λ t. (λ e. absurd (let clash : None ≡ Some t = e in cc), λ h. absurd (none t h))) (λ e. inl e, λ h. elim h [ inl e ↦ e | inr held ↦ absurd (none held.0 held.1) ])

  pub ticks_stop : TicksStop b s
  ticks_stop = by s.running refl
    where
      by : (o : Option ℕ) → s.running ≡ o → TickTaken s (interrupted (clocked s.running s.pending) o)
      by None idle = subst (λ (o : Option ℕ). TickTaken s (clocked o s.pending)) (sym idle) (stops_all (λ t h. (let clash : None ≡ Some t = sym idle ∙ h.runs in cc)))
      by (Some t) runs = chosen (λ (z : State). TickTaken s z) (get_or (map timed s.threads) t nobody).posture.off (clocked s.running true) (clocked None s.pending)
          (λ off.
          let held : HoldsOff s t = record { runs = runs; off = sym (off_at t) ∙ off } in
          tick_taken s.running true (λ u. (λ e. subst (HoldsOff s) (let same : t ≡ u = (let both : Some t ≡ Some u = sym runs ∙ e in cc) in same) held, λ h. h.runs)) (λ e. inr (t, held), λ h. refl))
          (λ on. stops_all (λ u h.
          let same : t ≡ u = (let both : Some t ≡ Some u = sym runs ∙ h.runs in cc) in
          let off : (thread s t).posture.off ≡ true = subst (λ n. (thread s n).posture.off ≡ true) (sym same) h.off in
          (let clash : false ≡ true = sym on ∙ off_at t ∙ off in cc)))

-- ---- a sweep and an input

same_turn : (s : State) → SameTurn s s
same_turn s = record { running = refl; pending = refl; picks = refl; time = refl }

on_turn : (i : Image) (s : State) (o : Option ℕ) → SameTurn s (sweep_on i s o)
on_turn i s None = same_turn s
on_turn i s (Some front) =
    let slice : State = with_slice i s front (slice_end i s front) in
    chosen (SameTurn s) (nat_le (ram_size slice) (slice_end i s front)) (sweep_over i slice) slice (λ is. record { running = refl; pending = refl; picks = refl; time = refl }) (λ not. record { running = refl; pending = refl; picks = refl; time = refl })

began_turn : (s : State) (o : Option ℕ) → SameTurn s (sweep_began s o)
began_turn s None = chosen (SameTurn s) (has_quarantined s.objects) (record s { objects = painted s.objects; front = Some 0 }) s (λ is. record { running = refl; pending = refl; picks = refl; time = refl }) (λ not. same_turn s)
began_turn s (Some front) = same_turn s

pub turns_stay : (b : Platform) (s : State) → TurnsStay b s
turns_stay b s = record {
  sweeps = (
      let z : State = record s { counts = record s.counts { sweeps = s.counts.sweeps + 1 } } in
      let began = began_turn z z.front in
      let on = on_turn b.image (sweep_began z z.front) (sweep_began z z.front).front in
      record { running = on.running ∙ began.running; pending = on.pending ∙ began.pending; picks = on.picks ∙ began.picks; time = on.time ∙ began.time }
      );
  inputs = λ n byte. record { running = refl; pending = refl; picks = refl; time = refl };
}
