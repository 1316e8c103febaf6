-- Every event leaves rows as they are to stand.
use Rattle.std.proofs.Common.{ℕ, ◌≡◌, ◌+◌, ◌&&◌, true, false, not, List, [], ◌∷◌, map, Option, Some, None, Result, Ok, Err, refl, ap}
use Rattle.law_lists.proofs.Tests.{chosen}
use Rattle.def_words.specs.declared.Trap.{Trap}
use Rattle.def_sched.specs.Picks.{pick}
use Rattle.def_machine.specs.Image.{Image}
use Rattle.def_machine.specs.State.{State, Frame, Object, thread}
use Rattle.def_machine.specs.Objects.{Each, painted}
use Rattle.def_machine.specs.Heap.{swept}
use Rattle.def_machine.specs.Frames.{returned, ended_with}
use Rattle.def_machine.specs.Threads.{timed, statuses_of}
use Rattle.def_confined.specs.Confined.{ObjectFits}
use Rattle.def_confined.specs.Keeps.{Keeps}
use Rattle.def_confined.specs.Partitioned.{Partitioned}
use Rattle.def_confined.specs.Facts.{Facts}
use Rattle.def_safety.specs.Wired.{Wired}
use Rattle.def_step.specs.declared.Event.{Event}
use Rattle.def_step.specs.declared.Event.TheVariants.{Step, Tick, Sweep, Input}
use Rattle.def_step.specs.Instructions.{Effect, executed}
use Rattle.def_machine.specs.Platform.{Platform}
use Rattle.def_step.specs.Events.{preempted_from, preempted, picked_as, picked_from, scheduled, continued, one_more_step, stepped, interrupted, happens, run}
use Rattle.def_step.specs.Quotas.{quota_in}
use Rattle.law_moves.proofs.Rows.{each_map}
use Rattle.law_moves.proofs.Begins.{begun}
use Rattle.law_routines.proofs.Objects.{made_says}
use Rattle.law_routines.proofs.Leaving.{Moves}
use Rattle.law_routines.proofs.Stepping.{Steps, IfDone, carried, executed_left}
use Rattle.law_history.proofs.Sweeping.{swept_case, sliced_case}
use Rattle.law_events.proofs.Events.{ready_keeps, event_keeps}
use Rattle.def_machine.specs.Rows.{RowsFit}
use Rattle.law_history.proofs.Moving.{added_fit, sealed_fit, gone_fit, painted_fit, left_fit}

abbrev pub Fit : State → Type 0
Fit z = RowsFit z.objects z.tokens

-- ---- a step

returned_fit : (i : Image) (s : State) (t : ℕ) (fs : List Frame) → Fit s → Fit (returned i s t fs)
returned_fit i s t [] h = h
returned_fit i s t (f ∷ []) h = h
returned_fit i s t (f ∷ g ∷ gs) h = h

ended_fit : (i : Image) (s : State) (t value : ℕ) (fs : List Frame) → Fit s → Fit (ended_with i s t value fs)
ended_fit i s t value [] h = h
ended_fit i s t value (f ∷ []) h = h
ended_fit i s t value (f ∷ g ∷ gs) h = h

done_fit : (s : State) (t : ℕ) (r : Result Effect Trap) → Fit s → IfDone Fit s t r
done_fit s t (Err why) h = tt
done_fit s t (Ok d) h = h

moves_fit : (i : Image) (s : State) (t : ℕ) → Each (ObjectFits i s.next) s.objects → Fit s → Moves (λ z told. Fit z) i s t
moves_fit i s t fits h = record {
  tells = λ n. h;
  enters = λ high. h;
  stops = λ status. h;
  wakes = λ address most. h;
  hands = λ size r is. added_fit r s.objects s.tokens h;
  gives = λ r c is. gone_fit r.number s.objects s.tokens h;
  seals = λ size key r is k.
      (let m = made_says i s (quota_in s t) size r is in
      sealed_fit i s.next r (record { number = r.number; key = key }) s.objects s.tokens fits (ap (λ (o : Object). o.live) m.is) (ap (λ (o : Object). o.number) m.is) refl h);
  opens = λ key r is. h;
}

steps_fit : (b : Platform) (s : State) (t : ℕ) → Each (ObjectFits b.image s.next) s.objects → Fit s → Steps Fit b s t
steps_fit b s t fits h = record {
  handles = λ why f fs frames is. h;
  ends = λ value. ended_fit b.image s t value (thread s t).frames h;
  back = λ plain_one. returned_fit b.image s t (thread s t).frames h;
  done = λ k. done_fit s t (carried b s t k) h;
  moves = moves_fit b.image s t fits h;
}

executed_fit : (b : Platform) (s : State) (t : ℕ) → Each (ObjectFits b.image s.next) s.objects → Fit s → Fit (executed b s t).0
executed_fit b s t fits h = executed_left Fit b s t (steps_fit b s t fits h)

preempted_fit : (s : State) (o : Option ℕ) → Fit s → Fit (preempted_from s o)
preempted_fit s None h = h
preempted_fit s (Some t) h = chosen Fit (s.pending && not (thread s t).posture.off) (record s { running = None; pending = false }) s (λ is. h) (λ not. h)

picked_fit : (b : Platform) (s : State) (o : Option ℕ) → Fit s → Fit (picked_as b s o)
picked_fit b s None h = h
picked_fit b s (Some t) h = h

scheduled_fit : (b : Platform) (s : State) (o : Option ℕ) → Fit s → Fit (picked_from b s o)
scheduled_fit b s (Some t) h = h
scheduled_fit b s None h = picked_fit b s (pick b.image.priorities (statuses_of s.threads) s.picks) h

continued_fit : (b : Platform) (s : State) (o : Option ℕ) → Each (ObjectFits b.image s.next) s.objects → Fit s → Fit (continued b s o).0
continued_fit b s None fits h = h
continued_fit b s (Some t) fits h = executed_fit b s t fits h

pub ready_fit : (b : Platform) (s : State) → Fit s → Fit (scheduled b (preempted (one_more_step s)))
ready_fit b s h = scheduled_fit b (preempted (one_more_step s)) (preempted (one_more_step s)).running (preempted_fit (one_more_step s) s.running h)

stepped_fit : (b : Platform) (s : State) → Partitioned b.image → Keeps b.image s → Fit s → Fit (stepped b s).0
stepped_fit b s parts k h =
    continued_fit b (scheduled b (preempted (one_more_step s))) (scheduled b (preempted (one_more_step s))).running (ready_keeps b s parts k).confined.fits (ready_fit b s h)

-- ---- a tick

interrupted_fit : (s : State) (o : Option ℕ) → Fit s → Fit (interrupted s o)
interrupted_fit s None h = h
interrupted_fit s (Some t) h = chosen Fit (thread s t).posture.off (record s { pending = true }) (record s { running = None }) (λ is. h) (λ not. h)

-- ---- a sweep

abbrev Unpainted : List Object → Type 0
Unpainted rs = Each (λ (r : Object). r.live ≡ true → r.painted ≡ false) rs

begun_unpainted : (rs : List Object) → Unpainted (painted rs)
begun_unpainted [] = tt
begun_unpainted (r ∷ rs) = (λ lives. ap not lives, begun_unpainted rs)

swept_fit : (i : Image) (s : State) → Unpainted s.objects → Fit s → Fit (swept i s)
swept_fit i s fits h = swept_case Fit i s
    (λ idle none. h)
    (λ idle some. sliced_case Fit i (begun s) 0 (λ whole. left_fit (painted s.objects) s.tokens (begun_unpainted s.objects) (painted_fit s.objects s.tokens h)) (λ part. painted_fit s.objects s.tokens h))
    (λ x runs. sliced_case Fit i s x (λ whole. left_fit s.objects s.tokens fits h) (λ part. h))

-- ---- whole

pub event_fit : (b : Platform) (s : State) (e : Event) → Partitioned b.image → Keeps b.image s → Fit s → Fit (happens b s e).0
event_fit b s Step parts k h = stepped_fit b s parts k h
event_fit b s Tick parts k h = interrupted_fit (record s { threads = map timed s.threads; time = s.time + 1; counts = record s.counts { ticks = s.counts.ticks + 1 } }) s.running h
event_fit b s (Input n byte) parts k h = h
event_fit b s Sweep parts k h = swept_fit b.image (record s { counts = record s.counts { sweeps = s.counts.sweeps + 1 } })
    (each_map (ObjectFits b.image s.next) (λ (r : Object). r.live ≡ true → r.painted ≡ false) s.objects (λ r f. f.unpainted) k.confined.fits) h

-- any list of events leaves the rows of keys and tokens where they stood so before
pub run_fit : (b : Platform) (s : State) (es : List Event) → Partitioned b.image → Facts b.image → Wired b → Keeps b.image s → Fit s → Fit (run b s es)
unfolding run
run_fit b s [] parts facts wired k h = h
run_fit b s (e ∷ es) parts facts wired k h = run_fit b (happens b s e).0 es parts facts wired (event_keeps b s e parts facts wired k) (event_fit b s e parts k h)
