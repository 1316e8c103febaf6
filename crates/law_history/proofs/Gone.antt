-- A number of which no object is live, and none will be: numbers are given once, and none that was freed becomes live.
use Rattle.std.proofs.Common.{ℕ, ◌≡◌, ◌+◌, ◌<◌, ◌&&◌, true, false, not, nat_eq, List, [], ◌∷◌, Option, Some, None, Result, Ok, Err, refl, sym, ap, ◌∙◌, subst, arith}
use Rattle.std.proofs.lemmas.Bool.{eqb-false}
use Rattle.law_lists.proofs.Tests.{chosen}
use Rattle.def_words.specs.declared.Cap.{Cap}
use Rattle.def_words.specs.declared.Trap.{Trap}
use Rattle.def_words.specs.Capability.{integer}
use Rattle.def_sched.specs.Picks.{pick}
use Rattle.def_machine.specs.Image.{Image}
use Rattle.def_machine.specs.State.{State, Frame, Object, thread}
use Rattle.def_machine.specs.Objects.{Each, quarantine, painted, placed_among}
use Rattle.def_machine.specs.Heap.{with_slice, slice_end, sweep_over}
use Rattle.def_machine.specs.Threads.{statuses_of}
use Rattle.def_machine.specs.Frames.{returned, ended_with}
use Rattle.def_confined.specs.Confined.{Confined, ObjectFits}
use Rattle.def_confined.specs.Places.{LiveCovers}
use Rattle.def_step.specs.declared.Event.{Event}
use Rattle.def_step.specs.declared.Event.TheVariants.{Step, Tick, Sweep, Input}
use Rattle.def_step.specs.Events.{preempted_from, preempted, picked_as, picked_from, continued, one_more_step, interrupted, happens, run}
use Rattle.def_step.specs.Instructions.{Effect}
use Rattle.def_step.specs.Quotas.{quota_in, let_go}
use Rattle.def_step.specs.Routines.{answers}
use Rattle.def_machine.specs.Platform.{Platform}
use Rattle.law_moves.proofs.Rows.{among_each, each_take, left_each}
use Rattle.law_moves.proofs.Quarantines.{gone, quarantine_each}
use Rattle.law_moves.proofs.Begins.{begun}
use Rattle.law_routines.proofs.Objects.{Found, made_says}
use Rattle.law_routines.proofs.Leaving.{Moves}
use Rattle.law_routines.proofs.Stepping.{Steps, IfDone, carried, executed_left}
use Rattle.def_safety.specs.Chunks.{IsNotOf}
use Rattle.def_safety.specs.Each.{ready}
use Rattle.def_safety.specs.Temporal.{OfLive}
use Rattle.law_history.proofs.Sweeping.{swept_case, sliced_case, counted}

abbrev pub IsGone : ℕ → Object → Type 0
IsGone n r = r.number ≡ n → r.live ≡ false

pub record NoneLive (n : ℕ) (s : State) : Type 0 where
  pub given : n < s.next
  pub gone : Each (IsGone n) s.objects

module _ (n : ℕ) where
  -- the rows and the next number are what matters
  same_rows : (s z : State) → z.objects ≡ s.objects → z.next ≡ s.next → NoneLive n s → NoneLive n z
  same_rows s z rows next h =
      let given = h.given in
      record { given = omega (arith, given, next); gone = subst (Each (IsGone n)) (sym rows) h.gone }

  returned_none : (i : Image) (s : State) (t : ℕ) (fs : List Frame) → NoneLive n s → NoneLive n (returned i s t fs)
  returned_none i s t [] h = h
  returned_none i s t (f ∷ []) h = record { given = h.given; gone = h.gone }
  returned_none i s t (f ∷ g ∷ gs) h = record { given = h.given; gone = h.gone }

  ended_none : (i : Image) (s : State) (t value : ℕ) (fs : List Frame) → NoneLive n s → NoneLive n (ended_with i s t value fs)
  ended_none i s t value [] h = h
  ended_none i s t value (f ∷ []) h = record { given = h.given; gone = h.gone }
  ended_none i s t value (f ∷ g ∷ gs) h = record { given = h.given; gone = h.gone }

  -- ---- a step

  -- a new object has the next number
  made_none : (s z : State) (r : Object) → r.number ≡ s.next → z.objects ≡ placed_among r s.objects → z.next ≡ s.next + 1 → NoneLive n s → NoneLive n z
  made_none s z r number rows next h =
      let given = h.given in
      record {
        given = omega (arith, given, next);
        gone = subst (Each (IsGone n)) (sym rows) (among_each (IsGone n) r s.objects (λ is. absurd (omega (arith, given, number, is))) h.gone);
      }

  quarantine_none : (m : ℕ) (rows : List Object) → Each (IsGone n) rows → Each (IsGone n) (quarantine m rows)
  quarantine_none m rows h = quarantine_each (IsGone n) (IsGone n) m rows (λ r k. k) (λ r k is. refl) h

  moves_none : (i : Image) (s : State) (t : ℕ) → NoneLive n s → Moves (λ z told. NoneLive n z) i s t
  moves_none i s t h = record {
    tells = λ m. record { given = h.given; gone = h.gone };
    enters = λ high. record { given = h.given; gone = h.gone };
    stops = λ status. record { given = h.given; gone = h.gone };
    wakes = λ address most. record { given = h.given; gone = h.gone };
    hands = λ size r is. made_none s _ r (ap (λ (o : Object). o.number) (made_says i s (quota_in s t) size r is).is) refl refl h;
    gives = λ r c is. record { given = h.given; gone = quarantine_none r.number s.objects h.gone };
    seals = λ size key r is k. made_none s _ r (ap (λ (o : Object). o.number) (made_says i s (quota_in s t) size r is).is) refl refl h;
    opens = λ key r is. record { given = h.given; gone = h.gone };
  }

  done_none : (s : State) (t : ℕ) (r : Result Effect Trap) → NoneLive n s → IfDone (NoneLive n) s t r
  done_none s t (Err why) h = tt
  done_none s t (Ok d) h = record { given = h.given; gone = h.gone }

  steps_none : (b : Platform) (s : State) (t : ℕ) → NoneLive n s → Steps (NoneLive n) b s t
  steps_none b s t h = record {
    handles = λ why f fs frames is. record { given = h.given; gone = h.gone };
    ends = λ value. ended_none b.image s t value (thread s t).frames h;
    back = λ plain_one. returned_none b.image s t (thread s t).frames h;
    done = λ k. done_none s t (carried b s t k) h;
    moves = moves_none b.image s t h;
  }

  preempted_none : (s : State) (o : Option ℕ) → NoneLive n s → NoneLive n (preempted_from s o)
  preempted_none s None h = h
  preempted_none s (Some t) h = chosen (NoneLive n) (s.pending && not (thread s t).posture.off) (record s { running = None; pending = false }) s (λ is. record { given = h.given; gone = h.gone }) (λ not. h)

  picked_none : (b : Platform) (s : State) (o : Option ℕ) → NoneLive n s → NoneLive n (picked_as b s o)
  picked_none b s None h = h
  picked_none b s (Some t) h = record { given = h.given; gone = h.gone }

  scheduled_none : (b : Platform) (s : State) (o : Option ℕ) → NoneLive n s → NoneLive n (picked_from b s o)
  scheduled_none b s (Some t) h = h
  scheduled_none b s None h = picked_none b s (pick b.image.priorities (statuses_of s.threads) s.picks) h

  pub ready_none : (b : Platform) (s : State) → NoneLive n s → NoneLive n (ready b s)
  ready_none b s h = scheduled_none b (preempted (one_more_step s)) (preempted (one_more_step s)).running (preempted_none (one_more_step s) s.running (record { given = h.given; gone = h.gone }))

  continued_none : (b : Platform) (s : State) (o : Option ℕ) → NoneLive n s → NoneLive n (continued b s o).0
  continued_none b s None h = h
  continued_none b s (Some t) h = let after = executed_left (NoneLive n) b s t (steps_none b s t h) in record { given = after.given; gone = after.gone }

  -- ---- the other events

  interrupted_none : (s : State) (o : Option ℕ) → NoneLive n s → NoneLive n (interrupted s o)
  interrupted_none s None h = h
  interrupted_none s (Some t) h = chosen (NoneLive n) (thread s t).posture.off (record s { pending = true }) (record s { running = None }) (λ is. record { given = h.given; gone = h.gone }) (λ not. record { given = h.given; gone = h.gone })

  painted_none : (rows : List Object) → Each (IsGone n) rows → Each (IsGone n) (painted rows)
  painted_none [] h = tt
  painted_none (r ∷ rs) h = (h.0, painted_none rs h.1)

  over_none : (i : Image) (s : State) (x : ℕ) → NoneLive n s → NoneLive n (sweep_over i (with_slice i s x (slice_end i s x)))
  over_none i s x h = record { given = h.given; gone = left_each (IsGone n) s.objects h.gone }

  slice_none : (i : Image) (s : State) (x : ℕ) → NoneLive n s → NoneLive n (with_slice i s x (slice_end i s x))
  slice_none i s x h = record { given = h.given; gone = h.gone }

  swept_none : (b : Platform) (s : State) → NoneLive n s → NoneLive n (happens b s Sweep).0
  swept_none b s h = swept_case (NoneLive n) b.image (counted s)
      (λ none idle. record { given = h.given; gone = h.gone })
      (λ none some. sliced_case (NoneLive n) b.image (begun (counted s)) 0 (λ all. over_none b.image (begun (counted s)) 0 paints) (λ less. slice_none b.image (begun (counted s)) 0 paints))
      (λ x runs. sliced_case (NoneLive n) b.image (counted s) x (λ all. over_none b.image (counted s) x counts) (λ less. slice_none b.image (counted s) x counts))
    where
      counts : NoneLive n (counted s)
      counts = record { given = h.given; gone = h.gone }

      paints : NoneLive n (begun (counted s))
      paints = record { given = h.given; gone = painted_none s.objects h.gone }

  pub event_none : (b : Platform) (s : State) (e : Event) → NoneLive n s → NoneLive n (happens b s e).0
  event_none b s Step h = continued_none b (ready b s) (ready b s).running (ready_none b s h)
  event_none b s Tick h = interrupted_none _ s.running (record { given = h.given; gone = h.gone })
  event_none b s Sweep h = swept_none b s h
  event_none b s (Input k byte) h = record { given = h.given; gone = h.gone }

  pub run_none : (b : Platform) (s : State) (es : List Event) → NoneLive n s → NoneLive n (run b s es)
  unfolding run
  run_none b s [] h = h
  run_none b s (e ∷ es) h = run_none b (happens b s e).0 es (event_none b s e h)

-- ---- the object that a free gives back

quarantine_gone : (n : ℕ) (rows : List Object) → Each (IsGone n) (quarantine n rows)
quarantine_gone n [] = tt
quarantine_gone n (r ∷ rs) = (
  chosen (IsGone n) (nat_eq r.number n) (gone r) r (λ is same. refl) (λ other same. absurd (eqb-false r.number n other same)),
  quarantine_gone n rs,
)

pub gives_none : (i : Image) (s : State) (t : ℕ) (r : Object) (c : Cap) → Confined i s → Found (quota_in s t) c s.objects r → NoneLive r.number (answers (let_go i s t r) t (integer 0))
gives_none i s t r c h f = record {
  given = each_take (ObjectFits i s.next) (λ q. q ≡ r) (r.number < s.next) s.objects (λ q fits same. subst (λ (z : Object). z.number < s.next) same fits.number) h.fits f.there;
  gone = quarantine_gone r.number s.objects;
}

-- what is of a live object is of none with that number
pub not_of : (i : Image) (n : ℕ) (s : State) (c : Cap) → NoneLive n s → OfLive i s.objects c → IsNotOf i n c
not_of i n s c h live heap is = each_take (IsGone n) (LiveCovers c) ⊥ s.objects
    (λ q none k. (let covers = k.1 in let clash : true ≡ false = sym k.0 ∙ none (covers.number ∙ is) in cc)) h.gone (live heap)
