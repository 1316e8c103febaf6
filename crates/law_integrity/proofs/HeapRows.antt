-- What an event changes of the heap's rows.
use Rattle.std.proofs.Common.{ℕ, ◌≡◌, ◌+◌, ◌⊎◌, ◌&&◌, inl, inr, true, false, not, nat_le, List, [], ◌∷◌, map, Option, Some, None, Result, Ok, Err, refl, sym, ap, ◌∙◌, subst, option_map}
use Rattle.law_lists.proofs.Tests.{chosen}
use Rattle.ct_entry.specs.declared.acts.Deed.{Deed}
use Rattle.def_sched.specs.Picks.{pick}
use Rattle.def_words.specs.declared.Cap.{Cap}
use Rattle.def_words.specs.declared.Trap.{Trap}
use Rattle.def_words.specs.Capability.{integer}
use Rattle.def_machine.specs.Platform.{Platform}
use Rattle.def_machine.specs.Image.{Image}
use Rattle.def_machine.specs.Objects.{live_object, charges, has_quarantined, painted, unpainted}
use Rattle.def_machine.specs.State.{State, Frame, Object, thread}
use Rattle.def_machine.specs.Threads.{timed, statuses_of}
use Rattle.def_machine.specs.Frames.{returned, ended_with}
use Rattle.def_machine.specs.Heap.{with_object, object_cap, with_slice, slice_end, sweep_over, ram_size, sweep_began, sweep_on, swept as sweeps}
use Rattle.def_confined.specs.Confined.{Confined}
use Rattle.def_confined.specs.Keeps.{Keeps}
use Rattle.def_confined.specs.Partitioned.{Partitioned}
use Rattle.def_step.specs.declared.Event.{Event}
use Rattle.def_step.specs.declared.Event.TheVariants.{Step, Tick, Sweep, Input}
use Rattle.def_step.specs.Events.{preempted_from, preempted, picked_as, picked_from, continued, one_more_step, interrupted, noted, happens}
use Rattle.def_step.specs.Instructions.{Effect, operand, deed_told, executed, actor_of}
use Rattle.def_step.specs.Operands.{operands_of}
use Rattle.def_step.specs.Quotas.{Made, allocation, quota_in, let_go}
use Rattle.def_step.specs.Routines.{answers}
use Rattle.def_step.specs.Tokens.{with_row, sealed_token}
use Rattle.def_safety.specs.Each.{ready}
use Rattle.def_integrity.specs.HeapRows.{IsHandedOut, IsGivenBack, SameRows, RowsSwept, RowsTouched, as_before, by_allocation, by_free, by_sweep}
use Rattle.law_routines.proofs.Leaving.{allocate_told, free_told}
use Rattle.law_routines.proofs.Objects.{Found, made_says}
use Rattle.law_routines.proofs.Stepping.{carried}
use Rattle.law_events.proofs.Events.{ready_keeps}
use Rattle.law_integrity.proofs.Cases.{executed_case}
use Rattle.law_integrity.proofs.Granules.{acting, head_of}
use Rattle.law_history.proofs.Routines.{IfEffect, MayFetch}

pub data Rows (s : State) (told : Option Deed) (z : State) : Type 0 where
  same : SameRows s z → Rows s told z
  handed : IsHandedOut s told z → Rows s told z
  given : IsGivenBack s told z → Rows s told z

itself : (s : State) → SameRows s s
itself s = record { objects = refl; next = refl; tokens = refl }

-- ---- a step of a thread

module _ (b : Platform) (s : State) (t : ℕ) (held : Confined b.image s) (runs : s.running ≡ Some t) where
  unchanged : (z : State) (told : Option Deed) → z.objects ≡ s.objects → z.next ≡ s.next → z.tokens ≡ s.tokens → Rows s told z
  unchanged z told objects next tokens = same (record { objects = objects; next = next; tokens = tokens })

  ended_rows : (i : Image) (value : ℕ) (told : Option Deed) (fs : List Frame) → Rows s told (ended_with i s t value fs)
  ended_rows i value told [] = unchanged _ told refl refl refl
  ended_rows i value told (f ∷ []) = unchanged _ told refl refl refl
  ended_rows i value told (f ∷ g ∷ gs) = unchanged _ told refl refl refl

  returned_rows : (i : Image) (fs : List Frame) → Rows s None (returned i s t fs)
  returned_rows i [] = unchanged _ None refl refl refl
  returned_rows i (f ∷ []) = unchanged _ None refl refl refl
  returned_rows i (f ∷ g ∷ gs) = unchanged _ None refl refl refl

  done_rows : (x : Cap) (r : Result Effect Trap) → IfEffect (λ z told. Rows s told z) s t x r
  done_rows x (Err why) = tt
  done_rows x (Ok d) = unchanged _ _ refl refl refl

  -- what is handed out is live, with the next number
  made_fresh : (r : Object) (size : ℕ) → allocation b.image s (quota_in s t) size ≡ Made r → r ≡ live_object s.next r.quota r.base r.length
  made_fresh r size is = (let made = made_says b.image s (quota_in s t) size r is in subst (λ (o : Object). o ≡ live_object s.next o.quota o.base o.length) (sym made.is) refl)

  handed_rows : MayFetch s t → (size : ℕ) (r : Object) → allocation b.image s (quota_in s t) size ≡ Made r → Rows s (option_map (deed_told s t) (Some (allocate_told s r))) (answers (with_object s r) t (object_cap r))
  handed_rows fetched size r is =
      let head = head_of b s t held fetched in
      handed (record {
        by = acting s t head.0 head.1.0 runs head.1.1;
        object = r;
        fresh = made_fresh r size is;
        left = charges r.quota (with_object s r).objects;
        why = record { deed = deed_told s t (allocate_told s r); is_told = refl; by_thread = refl; by_actor = ap actor_of head.1.1; act_is = refl };
        quota = refl;
        objects = refl;
        next = refl;
        tokens = inl refl;
      })

  sealed_rows : MayFetch s t → (size : ℕ) (key : Option ℕ) (r : Object) → allocation b.image s (quota_in s t) size ≡ Made r
      → Rows s (option_map (deed_told s t) (Some (allocate_told (with_row s r key) r))) (answers (with_object (with_row s r key) r) t (sealed_token r))
  sealed_rows fetched size key r is =
      let head = head_of b s t held fetched in
      handed (record {
        by = acting s t head.0 head.1.0 runs head.1.1;
        object = r;
        fresh = made_fresh r size is;
        left = charges r.quota (with_object (with_row s r key) r).objects;
        why = record { deed = deed_told s t (allocate_told (with_row s r key) r); is_told = refl; by_thread = refl; by_actor = ap actor_of head.1.1; act_is = refl };
        quota = refl;
        objects = refl;
        next = refl;
        tokens = inr (key, refl);
      })

  given_rows : MayFetch s t → (r : Object) (c : Cap) → Found (quota_in s t) c s.objects r → Rows s (option_map (deed_told s t) (Some (free_told b.image s t r))) (answers (let_go b.image s t r) t (integer 0))
  given_rows fetched r c found =
      let head = head_of b s t held fetched in
      given (record {
        by = acting s t head.0 head.1.0 runs head.1.1;
        object = r;
        there = found.there;
        live = found.live;
        left = charges r.quota (let_go b.image s t r).objects;
        why = record { deed = deed_told s t (free_told b.image s t r); is_told = refl; by_thread = refl; by_actor = ap actor_of head.1.1; act_is = refl };
        quota = refl;
        objects = refl;
        next = refl;
        tokens = refl;
      })

  pub executed_rows : Rows s (executed b s t).1 (executed b s t).0
  executed_rows = executed_case (λ z told. Rows s told z) b s t (record {
    handles = λ why f fs frames is. unchanged _ _ refl refl refl;
    ends = λ value told. ended_rows b.image value told (thread s t).frames;
    back = returned_rows b.image (thread s t).frames;
    done = λ fetched k stands. done_rows (operand s t (operands_of k).first) (carried b s t k);
    routines = λ fetched. record {
      tells = λ n. unchanged _ _ refl refl refl;
      enters = λ none. unchanged _ _ refl refl refl;
      stops = λ status. unchanged _ _ refl refl refl;
      wakes = λ none. unchanged _ _ refl refl refl;
      hands = λ size r is. handed_rows fetched size r is;
      gives = λ r c found. given_rows fetched r c found;
      seals = λ size key r is named. sealed_rows fetched size key r is;
      opens = λ key r is. unchanged _ _ refl refl refl;
    };
  })

-- ---- a step

onward : (s y z : State) → SameRows s y → SameRows y z → SameRows s z
onward s y z a b = record { objects = b.objects ∙ a.objects; next = b.next ∙ a.next; tokens = b.tokens ∙ a.tokens }

pub ready_rows : (b : Platform) (s : State) → SameRows s (ready b s)
ready_rows b s = onward s (preempted (one_more_step s)) (ready b s) (stopped (one_more_step s).running) (at_pick (preempted (one_more_step s)) (preempted (one_more_step s)).running)
  where
    at_choice : (z : State) (o : Option ℕ) → SameRows z (picked_as b z o)
    at_choice z None = itself z
    at_choice z (Some t) = record { objects = refl; next = refl; tokens = refl }

    at_pick : (z : State) (o : Option ℕ) → SameRows z (picked_from b z o)
    at_pick z None = at_choice z (pick b.image.priorities (statuses_of z.threads) z.picks)
    at_pick z (Some t) = itself z

    stopped : (o : Option ℕ) → SameRows s (preempted_from (one_more_step s) o)
    stopped None = record { objects = refl; next = refl; tokens = refl }
    stopped (Some t) = chosen (SameRows s) ((one_more_step s).pending && not (thread (one_more_step s) t).posture.off) (record (one_more_step s) { running = None; pending = false }) (one_more_step s)
        (λ is. record { objects = refl; next = refl; tokens = refl })
        (λ not. record { objects = refl; next = refl; tokens = refl })

noted_rows : (s : State) (r : State × Option Deed) → Rows s r.1 r.0 → Rows s (noted r).1 (noted r).0
noted_rows s r (same h) = same (record { objects = h.objects; next = h.next; tokens = h.tokens })
noted_rows s r (handed h) = handed (record { by = h.by; object = h.object; fresh = h.fresh; left = h.left; why = h.why; quota = h.quota; objects = h.objects; next = h.next; tokens = h.tokens })
noted_rows s r (given h) = given (record { by = h.by; object = h.object; there = h.there; live = h.live; left = h.left; why = h.why; quota = h.quota; objects = h.objects; next = h.next; tokens = h.tokens })

continued_rows : (b : Platform) (s : State) (o : Option ℕ) → (ready b s).running ≡ o → Partitioned b.image → Keeps b.image s → Rows (ready b s) (continued b (ready b s) o).1 (continued b (ready b s) o).0
continued_rows b s None runs parts k = same (itself (ready b s))
continued_rows b s (Some t) runs parts k = noted_rows (ready b s) (executed b (ready b s) t) (executed_rows b (ready b s) t (ready_keeps b s parts k).confined runs)

step_rows : (b : Platform) (s : State) → Rows (ready b s) (happens b s Step).1.deed (happens b s Step).0 → RowsTouched b s Step
step_rows b s (same h) = as_before (onward s (ready b s) (happens b s Step).0 (ready_rows b s) h)
step_rows b s (handed h) = by_allocation refl h
step_rows b s (given h) = by_free refl h

-- ---- a sweep

record OnRows (z after : State) : Type 0 where
  objects : (after.objects ≡ z.objects) ⊎ (after.objects ≡ unpainted z.objects)
  next : after.next ≡ z.next
  tokens : after.tokens ≡ z.tokens

on_rows : (i : Image) (z : State) (o : Option ℕ) → OnRows z (sweep_on i z o)
on_rows i z None = record { objects = inl refl; next = refl; tokens = refl }
on_rows i z (Some front) = chosen (OnRows z) (nat_le (ram_size (with_slice i z front (slice_end i z front))) (slice_end i z front)) (sweep_over i (with_slice i z front (slice_end i z front))) (with_slice i z front (slice_end i z front))
    (λ is. record { objects = inr refl; next = refl; tokens = refl })
    (λ not. record { objects = inl refl; next = refl; tokens = refl })

sweep_rows : (i : Image) (s : State) → RowsSwept s (sweeps i s)
sweep_rows i s = by s.front
  where
    on : (o : Option ℕ) → RowsSwept s (sweep_on i s o)
    on o = (let h = on_rows i s o in record { objects = elim h.objects [ inl stays ↦ inl stays | inr gone ↦ inr (inr (inl gone)) ]; next = h.next; tokens = h.tokens })

    by : (o : Option ℕ) → RowsSwept s (sweep_on i (sweep_began s o) (sweep_began s o).front)
    by (Some front) = on s.front
    by None = chosen (λ (z : State). RowsSwept s (sweep_on i z z.front)) (has_quarantined s.objects) (record s { objects = painted s.objects; front = Some 0 }) s
        (λ is. (let h = on_rows i (record s { objects = painted s.objects; front = Some 0 }) (Some 0) in record { objects = elim h.objects [ inl stays ↦ inr (inl stays) | inr gone ↦ inr (inr (inr gone)) ]; next = h.next; tokens = h.tokens }))
        (λ not. on s.front)

-- ---- an event

interrupted_rows : (s : State) (o : Option ℕ) → SameRows s (interrupted s o)
interrupted_rows s None = itself s
interrupted_rows s (Some t) = chosen (SameRows s) (thread s t).posture.off (record s { pending = true }) (record s { running = None }) (λ is. record { objects = refl; next = refl; tokens = refl }) (λ not. record { objects = refl; next = refl; tokens = refl })

pub rows_kept : (b : Platform) (s : State) (e : Event) → Partitioned b.image → Keeps b.image s → RowsTouched b s e
rows_kept b s Step parts k = step_rows b s (continued_rows b s (ready b s).running refl parts k)
rows_kept b s Tick parts k =
    let h = interrupted_rows (record s { threads = map timed s.threads; time = s.time + 1; counts = record s.counts { ticks = s.counts.ticks + 1 } }) s.running in
    as_before (record { objects = h.objects; next = h.next; tokens = h.tokens })
rows_kept b s Sweep parts k = (let h = sweep_rows b.image (record s { counts = record s.counts { sweeps = s.counts.sweeps + 1 } }) in by_sweep refl (record { objects = h.objects; next = h.next; tokens = h.tokens }))
rows_kept b s (Input n byte) parts k = as_before (record { objects = refl; next = refl; tokens = refl })
