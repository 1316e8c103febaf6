-- An event counts as one of its kind, and so does each of a list.
use Rattle.std.proofs.Common.{◌≡◌, ℕ, ◌+◌, ◌&&◌, not, nat_le, List, map, [], ◌∷◌, Option, Some, None, Result, Ok, Err, refl, ap, ◌∙◌, ◌++◌, length, suc, arith}
use Rattle.ct_entry.specs.declared.acts.Act.{Act}
use Rattle.ct_entry.specs.declared.acts.Act.TheVariants.{Call, Load, Store, Allocate, Free, Trap}
use Rattle.ct_entry.specs.declared.acts.Deed.{Deed}
use Rattle.def_words.specs.declared.Trap as trap_words
use Rattle.def_machine.specs.Image.{Image}
use Rattle.def_machine.specs.State.{State, Frame, Counts, thread}
use Rattle.def_machine.specs.Frames.{returned, ended_with}
use Rattle.def_machine.specs.Heap.{swept, sweep_on, sweep_began, with_slice, slice_end, ram_size}
use Rattle.def_machine.specs.Objects.{has_quarantined}
use Rattle.def_machine.specs.Threads.{statuses_of, timed}
use Rattle.def_sched.specs.Picks.{pick}
use Rattle.def_step.specs.declared.Event.{Event}
use Rattle.def_step.specs.declared.Event.TheVariants.{Step, Tick, Sweep, Input}
use Rattle.def_step.specs.Instructions.{Effect, executed}
use Rattle.def_machine.specs.Platform.{Platform}
use Rattle.def_step.specs.Events.{happens, stepped, continued, with_deed, with_act, scheduled, picked_as, picked_from, preempted, preempted_from, one_more_step, interrupted, run}
use Rattle.law_lists.proofs.Tests.{chosen}
use Rattle.law_routines.proofs.Stepping.{Steps, IfDone, carried, executed_left}
use Rattle.def_events.specs.Kinds.{Kinds, kinds, one_more, all_more}

-- ---- one instruction counts nothing

ended_counts : (i : Image) (s : State) (t value : ℕ) (fs : List Frame) → (ended_with i s t value fs).counts ≡ s.counts
ended_counts i s t value [] = refl
ended_counts i s t value (f ∷ []) = refl
ended_counts i s t value (f ∷ g ∷ fs) = refl

returned_counts : (i : Image) (s : State) (t : ℕ) (fs : List Frame) → (returned i s t fs).counts ≡ s.counts
returned_counts i s t [] = refl
returned_counts i s t (f ∷ []) = refl
returned_counts i s t (f ∷ g ∷ fs) = refl

done_counts : (s : State) (t : ℕ) (r : Result Effect trap_words.Trap) → IfDone (λ z. z.counts ≡ s.counts) s t r
done_counts s t (Err why) = tt
done_counts s t (Ok d) = refl

steps_count : (b : Platform) (s : State) (t : ℕ) → Steps (λ z. z.counts ≡ s.counts) b s t
steps_count b s t = record {
  handles = λ why f fs frames is. refl;
  ends = λ value. ended_counts b.image s t value (thread s t).frames;
  back = λ plain_one. returned_counts b.image s t (thread s t).frames;
  done = λ k. done_counts s t (carried b s t k);
  moves = record { tells = λ n. refl; enters = λ high. refl; stops = λ status. refl; wakes = λ address most. refl; hands = λ size r is. refl; gives = λ r c is. refl; seals = λ size key r is k. refl; opens = λ key r is. refl };
}

executed_counts : (b : Platform) (s : State) (t : ℕ) → (executed b s t).0.counts ≡ s.counts
executed_counts b s t = executed_left (λ z. z.counts ≡ s.counts) b s t (steps_count b s t)

-- ---- deeds are counted apart from events

act_kinds : (c : Counts) (a : Act) → kinds (with_act c a) ≡ kinds c
act_kinds c (Call export) = refl
act_kinds c (Load address width value) = refl
act_kinds c (Store address width value) = refl
act_kinds c (Allocate number base size live) = refl
act_kinds c (Free number base size live) = refl
act_kinds c (Trap cause code register) = refl

deed_kinds : (c : Counts) (d : Option Deed) → kinds (with_deed c d) ≡ kinds c
deed_kinds c None = refl
deed_kinds c (Some d) = act_kinds c d.act

-- ---- a step

continued_kinds : (b : Platform) (s : State) (o : Option ℕ) → kinds (continued b s o).0.counts ≡ kinds s.counts
continued_kinds b s None = refl
continued_kinds b s (Some t) = deed_kinds (executed b s t).0.counts (executed b s t).1 ∙ ap kinds (executed_counts b s t)

picked_counts : (b : Platform) (s : State) (o : Option ℕ) → (picked_from b s o).counts ≡ s.counts
picked_counts b s (Some t) = refl
picked_counts b s None = as_picked (pick b.image.priorities (statuses_of s.threads) s.picks)
  where
    as_picked : (p : Option ℕ) → (picked_as b s p).counts ≡ s.counts
    as_picked None = refl
    as_picked (Some t) = refl

preempted_counts : (s : State) (o : Option ℕ) → (preempted_from s o).counts ≡ s.counts
preempted_counts s None = refl
preempted_counts s (Some t) = chosen (λ (r : State). r.counts ≡ s.counts) (s.pending && not (thread s t).posture.off) _ _ (λ _. refl) (λ _. refl)

stepped_kinds : (b : Platform) (s : State) → kinds (stepped b s).0.counts ≡ one_more Step (kinds s.counts)
stepped_kinds b s =
    continued_kinds b (scheduled b (preempted (one_more_step s))) (scheduled b (preempted (one_more_step s))).running
    ∙ ap kinds
    (picked_counts b (preempted (one_more_step s)) (preempted (one_more_step s)).running
    ∙ preempted_counts (one_more_step s) s.running)

-- ---- a tick

interrupted_counts : (s : State) (o : Option ℕ) → (interrupted s o).counts ≡ s.counts
interrupted_counts s None = refl
interrupted_counts s (Some t) = chosen (λ (r : State). r.counts ≡ s.counts) (thread s t).posture.off _ _ (λ _. refl) (λ _. refl)

-- ---- a slice of a sweep

began_counts : (s : State) (o : Option ℕ) → (sweep_began s o).counts ≡ s.counts
began_counts s None = chosen (λ (r : State). r.counts ≡ s.counts) (has_quarantined s.objects) _ _ (λ _. refl) (λ _. refl)
began_counts s (Some front) = refl

on_counts : (i : Image) (s : State) (o : Option ℕ) → (sweep_on i s o).counts ≡ s.counts
on_counts i s None = refl
on_counts i s (Some front) =
    chosen (λ (r : State). r.counts ≡ s.counts) (nat_le (ram_size (with_slice i s front (slice_end i s front))) (slice_end i s front)) _ _ (λ _. refl) (λ _. refl)

swept_counts : (i : Image) (s : State) → (swept i s).counts ≡ s.counts
swept_counts i s = on_counts i (sweep_began s s.front) (sweep_began s s.front).front ∙ began_counts s s.front

-- ---- an event

pub event_kinds : (b : Platform) (s : State) (e : Event) → kinds (happens b s e).0.counts ≡ one_more e (kinds s.counts)
event_kinds b s Step = stepped_kinds b s
event_kinds b s Tick =
    ap kinds
    (interrupted_counts
    (record s {
      threads = map timed s.threads;
      time = s.time + 1;
      counts = record s.counts { ticks = s.counts.ticks + 1 };
    })
    s.running)
event_kinds b s Sweep = ap kinds (swept_counts b.image (record s { counts = record s.counts { sweeps = s.counts.sweeps + 1 } }))
event_kinds b s (Input n byte) = refl

pub run_kinds : (b : Platform) (s : State) (es : List Event) → kinds (run b s es).counts ≡ all_more es (kinds s.counts)
unfolding run
run_kinds b s [] = refl
run_kinds b s (e ∷ es) = run_kinds b (happens b s e).0 es ∙ ap (λ k. all_more es k) (event_kinds b s e)

-- bytes count as inputs alone
pub inputs_more : {G : Type 0} (input : G → Event) → ((g : G) (k : Kinds) → one_more (input g) k ≡ record k { inputs = k.inputs + 1 })
    → (gs : List G) (es : List Event) (k : Kinds) → all_more (map input gs ++ es) k ≡ all_more es (record k { inputs = k.inputs + length gs })
inputs_more input one [] es k = ap (λ n. all_more es (record k { inputs = n })) (let same : k.inputs ≡ k.inputs + 0 = omega arith in same)
inputs_more input one (g ∷ gs) es k =
    ap (λ next. all_more (map input gs ++ es) next) (one g k)
    ∙ inputs_more input one gs es (record k { inputs = k.inputs + 1 })
    ∙ ap (λ n. all_more es (record k { inputs = n })) (let same : k.inputs + 1 + length gs ≡ k.inputs + suc (length gs) = omega arith in same)
