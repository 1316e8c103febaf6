-- Events other than Sweep leave the sweep as it is, let no object of the heap go and paint none: a step may add one, or
-- quarantine one.
use Rattle.std.proofs.Common.{ℕ, ◌≡◌, ◌+◌, ◌&&◌, true, false, not, List, [], ◌∷◌, map, Option, Some, None, Result, Ok, Err, inl, inr, refl, sym, ap, ◌∙◌, subst}
use Rattle.law_lists.proofs.Tests.{chosen}
use Rattle.def_words.specs.declared.Trap.{Trap}
use Rattle.def_sched.specs.Picks.{pick}
use Rattle.def_machine.specs.Image.{Image}
use Rattle.def_words.specs.Capability.{integer}
use Rattle.def_machine.specs.State.{State, Frame, Object, thread}
use Rattle.def_machine.specs.Objects.{Any, placed_among}
use Rattle.def_machine.specs.Heap.{with_object, quarantined, object_cap}
use Rattle.def_machine.specs.Threads.{timed, statuses_of}
use Rattle.def_machine.specs.Frames.{returned, ended_with}
use Rattle.def_step.specs.Routines.{answers}
use Rattle.def_step.specs.Quotas.{quota_in, let_go}
use Rattle.def_step.specs.Tokens.{with_row, sealed_token}
use Rattle.law_moves.proofs.Rows.{among_any, any_among}
use Rattle.law_moves.proofs.Quarantines.{quarantine_any, any_quarantine}
use Rattle.law_routines.proofs.Objects.{made_says}
use Rattle.law_routines.proofs.Leaving.{Moves}
use Rattle.law_routines.proofs.Stepping.{Steps, IfDone, carried, executed_left}
use Rattle.law_moves.proofs.Objects.{each_unit}
use Rattle.def_step.specs.Handlers.{handler_entered}
use Rattle.def_safety.specs.Reuse.{IsSameObject, Waits, IsPainted}
use Rattle.def_step.specs.Instructions.{Effect, put_done, executed}
use Rattle.def_machine.specs.Platform.{Platform}
use Rattle.def_step.specs.Events.{preempted_from, preempted, picked_as, picked_from, scheduled, continued, one_more_step, stepped, interrupted, ticked}

pub record Same (s r : State) : Type 0 where
  pub objects : r.objects ≡ s.objects
  pub front : r.front ≡ s.front

itself : (s : State) → Same s s
itself s = record { objects = refl; front = refl }

onward : (s r q : State) → Same s r → Same r q → Same s q
onward s r q a b = record { objects = b.objects ∙ a.objects; front = b.front ∙ a.front }

returned_same : (i : Image) (s : State) (t : ℕ) (fs : List Frame) → Same s (returned i s t fs)
returned_same i s t [] = itself s
returned_same i s t (f ∷ []) = record { objects = refl; front = refl }
returned_same i s t (f ∷ g ∷ gs) = record { objects = refl; front = refl }

ended_same : (i : Image) (s : State) (t value : ℕ) (fs : List Frame) → Same s (ended_with i s t value fs)
ended_same i s t value [] = itself s
ended_same i s t value (f ∷ []) = record { objects = refl; front = refl }
ended_same i s t value (f ∷ g ∷ gs) = record { objects = refl; front = refl }

-- ---- a step may add an object, and quarantine one

pub record Stays (s r : State) : Type 0 where
  pub front : r.front ≡ s.front
  pub rows : (q : Object) → Any (IsSameObject q) s.objects → Any (IsSameObject q) r.objects
  pub waits : (q : Object) → Any (Waits q) s.objects → Any (Waits q) r.objects
  pub painted : (q : Object) → Any (IsPainted q) r.objects → Any (IsPainted q) s.objects

pub same_stays : (s r : State) → Same s r → Stays s r
same_stays s r h = record {
  front = h.front;
  rows = λ q any. subst (Any (IsSameObject q)) (sym h.objects) any;
  waits = λ q any. subst (Any (Waits q)) (sym h.objects) any;
  painted = λ q any. subst (Any (IsPainted q)) h.objects any;
}

stays_on : (s r q : State) → Stays s r → Stays r q → Stays s q
stays_on s r q a b = record {
  front = b.front ∙ a.front;
  rows = λ o any. b.rows o (a.rows o any);
  waits = λ o any. b.waits o (a.waits o any);
  painted = λ o any. a.painted o (b.painted o any);
}

-- an object more, which isn't painted
added_stays : (s : State) (r : Object) → r.painted ≡ false → Stays s (with_object s r)
added_stays s r none = record {
  front = refl;
  rows = λ q any. among_any (IsSameObject q) r s.objects (inr any);
  waits = λ q any. among_any (Waits q) r s.objects (inr any);
  painted = λ q any. elim (any_among (IsPainted q) r s.objects any) [
    | inl here ↦ absurd (let clash : false ≡ true = sym none ∙ here.1 in cc)
    | inr there ↦ there
  ];
}

-- an object that is quarantined
pub quarantined_stays : (i : Image) (s : State) (r : Object) → Stays s (quarantined i s r)
quarantined_stays i s r = record {
  front = refl;
  rows = λ q any. quarantine_any (λ z. Unit {0}) (IsSameObject q) (IsSameObject q) r.number s.objects (λ z u k not. k) (λ z u k is. (k.0, k.1, k.2)) (each_unit s.objects) any;
  waits = λ q any. quarantine_any (λ z. Unit {0}) (Waits q) (Waits q) r.number s.objects (λ z u k not. k) (λ z u k is. ((k.0.0, k.0.1, k.0.2), k.1)) (each_unit s.objects) any;
  painted = λ q any. any_quarantine (λ z. Unit {0}) (IsPainted q) (IsPainted q) r.number s.objects (λ z u k not. k) (λ z u k is. ((k.0.0, k.0.1, k.0.2), k.1)) (each_unit s.objects) any;
}

-- whatever a thread's new self is
pub object_stays : (s : State) (r : Object) (z : State) → r.painted ≡ false → z.objects ≡ placed_among r s.objects → z.front ≡ s.front → Stays s z
object_stays s r z none objects front =
    let added = added_stays s r none in
    stays_on s (with_object s r) z added (same_stays (with_object s r) z (record { objects = objects; front = front }))

moves_stay : (i : Image) (s : State) (t : ℕ) → Moves (λ z told. Stays s z) i s t
moves_stay i s t = record {
  tells = λ n. same_stays s _ (record { objects = refl; front = refl });
  enters = λ high. same_stays s _ (record { objects = refl; front = refl });
  stops = λ status. same_stays s _ (record { objects = refl; front = refl });
  wakes = λ address most. same_stays s _ (record { objects = refl; front = refl });
  hands = λ size r is. object_stays s r (answers (with_object s r) t (object_cap r)) (ap (λ (o : Object). o.painted) (made_says i s (quota_in s t) size r is).is) refl refl;
  gives = λ r c is. stays_on s (quarantined i s r) (answers (let_go i s t r) t (integer 0)) (quarantined_stays i s r) (same_stays (quarantined i s r) (answers (let_go i s t r) t (integer 0)) (record { objects = refl; front = refl }));
  seals = λ size key r is k. object_stays s r (answers (with_object (with_row s r key) r) t (sealed_token r)) (ap (λ (o : Object). o.painted) (made_says i s (quota_in s t) size r is).is) refl refl;
  opens = λ key r is. same_stays s _ (record { objects = refl; front = refl });
}

done_stays : (s : State) (t : ℕ) (r : Result Effect Trap) → IfDone (Stays s) s t r
done_stays s t (Err why) = tt
done_stays s t (Ok d) = same_stays s (put_done s t d) (record { objects = refl; front = refl })

steps_stay : (b : Platform) (s : State) (t : ℕ) → Steps (Stays s) b s t
steps_stay b s t = record {
  handles = λ why f fs frames is. same_stays s (handler_entered b.image s t why f fs) (record { objects = refl; front = refl });
  ends = λ value. same_stays s (ended_with b.image s t value (thread s t).frames) (ended_same b.image s t value (thread s t).frames);
  back = λ plain_one. same_stays s (returned b.image s t (thread s t).frames) (returned_same b.image s t (thread s t).frames);
  done = λ k. done_stays s t (carried b s t k);
  moves = moves_stay b.image s t;
}

executed_stays : (b : Platform) (s : State) (t : ℕ) → Stays s (executed b s t).0
executed_stays b s t = executed_left (Stays s) b s t (steps_stay b s t)

preempted_same : (s : State) (o : Option ℕ) → Same s (preempted_from s o)
preempted_same s None = itself s
preempted_same s (Some t) = chosen (Same s) (s.pending && not (thread s t).posture.off) (record s { running = None; pending = false }) s (λ is. record { objects = refl; front = refl }) (λ not. itself s)

picked_same : (b : Platform) (s : State) (o : Option ℕ) → Same s (picked_as b s o)
picked_same b s None = itself s
picked_same b s (Some t) = record { objects = refl; front = refl }

scheduled_same : (b : Platform) (s : State) (o : Option ℕ) → Same s (picked_from b s o)
scheduled_same b s (Some t) = itself s
scheduled_same b s None = picked_same b s (pick b.image.priorities (statuses_of s.threads) s.picks)

continued_stays : (b : Platform) (s : State) (o : Option ℕ) → Stays s (continued b s o).0
continued_stays b s None = same_stays s s (itself s)
continued_stays b s (Some t) = let after = executed_stays b s t in record { front = after.front; rows = after.rows; waits = after.waits; painted = after.painted }

-- before its thread carries on a step changes neither
pub ready_same : (b : Platform) (s : State) → Same s (scheduled b (preempted (one_more_step s)))
ready_same b s =
    let before : Same s (preempted (one_more_step s)) = onward s (one_more_step s) (preempted (one_more_step s)) (record { objects = refl; front = refl }) (preempted_same (one_more_step s) s.running) in
    onward s (preempted (one_more_step s)) (scheduled b (preempted (one_more_step s))) before (scheduled_same b (preempted (one_more_step s)) (preempted (one_more_step s)).running)

pub stepped_stays : (b : Platform) (s : State) → Stays s (stepped b s).0
stepped_stays b s = stays_on s (scheduled b (preempted (one_more_step s))) (stepped b s).0 (same_stays s (scheduled b (preempted (one_more_step s))) (ready_same b s)) (continued_stays b (scheduled b (preempted (one_more_step s))) (scheduled b (preempted (one_more_step s))).running)

interrupted_same : (s : State) (o : Option ℕ) → Same s (interrupted s o)
interrupted_same s None = itself s
interrupted_same s (Some t) = chosen (Same s) (thread s t).posture.off (record s { pending = true }) (record s { running = None }) (λ is. record { objects = refl; front = refl }) (λ not. record { objects = refl; front = refl })

pub ticked_same : (s : State) → Same s (ticked s)
ticked_same s =
    let counted : Same s (record s { threads = map timed s.threads; time = s.time + 1; counts = record s.counts { ticks = s.counts.ticks + 1 } }) = record { objects = refl; front = refl } in
    onward s (record s { threads = map timed s.threads; time = s.time + 1; counts = record s.counts { ticks = s.counts.ticks + 1 } }) (ticked s) counted
    (interrupted_same (record s { threads = map timed s.threads; time = s.time + 1; counts = record s.counts { ticks = s.counts.ticks + 1 } }) s.running)
