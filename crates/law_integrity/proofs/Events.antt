-- What an event changes of RAM.
use Rattle.std.proofs.Common.{ℕ, ◌≡◌, ◌+◌, ◌&&◌, inl, inr, true, false, not, map, Option, Some, None, refl, ap, ◌∙◌}
use Rattle.law_lists.proofs.Tests.{chosen}
use Rattle.ct_entry.specs.declared.acts.Deed.{Deed}
use Rattle.def_sched.specs.Picks.{pick}
use Rattle.def_memory.specs.Granules.{granule_at}
use Rattle.def_machine.specs.Platform.{Platform}
use Rattle.def_machine.specs.State.{State, thread, granule}
use Rattle.def_machine.specs.Threads.{timed, statuses_of}
use Rattle.def_confined.specs.Facts.{Facts}
use Rattle.def_confined.specs.Keeps.{Keeps}
use Rattle.def_confined.specs.Partitioned.{Partitioned}
use Rattle.def_step.specs.declared.Event.{Event}
use Rattle.def_step.specs.declared.Event.TheVariants.{Step, Tick, Sweep, Input}
use Rattle.def_step.specs.Events.{preempted_from, preempted, picked_as, picked_from, continued, one_more_step, interrupted, noted, happens}
use Rattle.def_step.specs.Instructions.{executed}
use Rattle.def_safety.specs.Each.{ready}
use Rattle.def_safety.specs.Wired.{Wired}
use Rattle.def_integrity.specs.Touched.{Touched, as_before, by_store, by_clearing, by_record, by_free, by_sweep, GranulesKept}
use Rattle.law_events.proofs.Events.{ready_keeps, event_keeps}
use Rattle.law_history.proofs.Reaching.{uses_reach}
use Rattle.law_history.proofs.Locals.{ready_ram}
use Rattle.law_integrity.proofs.Granules.{Left, same, of_store, of_switch, of_trap, of_free, AllLeft, executed_granules}
use Rattle.law_integrity.proofs.Sweeps.{sweep_says}

-- ---- before a step

-- ---- a step

noted_left : (b : Platform) (s : State) (r : State × Option Deed) (n : ℕ) → Left b s r.1 r.0 n (granule r.0 n) → Left b s (noted r).1 (noted r).0 n (granule (noted r).0 n)
noted_left b s r n (same e) = same e
noted_left b s r n (of_store h) = of_store h
noted_left b s r n (of_switch h) = of_switch (record {
  by = h.by;
  low = h.low;
  high = h.high;
  why = elim h.why [
    | inl call ↦ inl (record { export = call.export; why = call.why; callee = call.callee; pushes = call.pushes; room = call.room; high = call.high })
    | inr last ↦ inr (record { ends = last.ends; high = last.high })
  ];
  new_is = h.new_is;
})
noted_left b s r n (of_trap h) = of_trap h
noted_left b s r n (of_free h) = of_free h

continued_left : (b : Platform) (s : State) (o : Option ℕ) → (ready b s).running ≡ o → Partitioned b.image → Facts b.image → Keeps b.image s → AllLeft b (ready b s) (continued b (ready b s) o).0 (continued b (ready b s) o).1
continued_left b s None runs parts facts k = λ n. same refl
continued_left b s (Some t) runs parts facts k = λ n. noted_left b (ready b s) (executed b (ready b s) t) n
    (executed_granules b (ready b s) t (record {
      parts = parts;
      facts = facts;
      keeps = ready_keeps b s parts k;
      runs = runs;
      uses = λ i f fs frames passes. (uses_reach b s parts k).access t i f fs runs frames passes;
    }) n)

step_touched : (b : Platform) (s : State) (k : ℕ) → Left b (ready b s) (happens b s Step).1.deed (happens b s Step).0 k (granule (happens b s Step).0 k) → Touched b s Step k
step_touched b s k (same e) = as_before (e ∙ ap (λ gs. granule_at gs k) (ready_ram b s))
step_touched b s k (of_store h) = by_store refl h
step_touched b s k (of_switch h) = by_clearing refl h
step_touched b s k (of_trap h) = by_record refl h
step_touched b s k (of_free h) = by_free refl h

-- ---- a tick

ticked_ram : (s : State) (o : Option ℕ) → (interrupted s o).granules ≡ s.granules
ticked_ram s None = refl
ticked_ram s (Some t) = chosen (λ (z : State). z.granules ≡ s.granules) (thread s t).posture.off (record s { pending = true }) (record s { running = None }) (λ is. refl) (λ not. refl)

-- ---- an event

pub granules_kept : (b : Platform) (s : State) (e : Event) → Partitioned b.image → Facts b.image → Wired b → Keeps b.image s → GranulesKept b s e
granules_kept b s Step parts facts wired k = λ n. step_touched b s n (continued_left b s (ready b s).running refl parts facts k n)
granules_kept b s Tick parts facts wired k = λ n. as_before (ap (λ gs. granule_at gs n) (ticked_ram (record s { threads = map timed s.threads; time = s.time + 1; counts = record s.counts { ticks = s.counts.ticks + 1 } }) s.running))
granules_kept b s Sweep parts facts wired k = λ n. (let h = sweep_says b (record s { counts = record s.counts { sweeps = s.counts.sweeps + 1 } }) n (event_keeps b s Sweep parts facts wired k).confined in by_sweep refl (record { cap = h.cap; mark = h.mark }))
granules_kept b s (Input n byte) parts facts wired k = λ j. as_before refl
