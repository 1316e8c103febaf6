-- Ticks, inputs and steps, whole.
use Rattle.std.proofs.Common.{ℕ, ◌≡◌, ◌+◌, ◌&&◌, true, false, not, List, [], ◌∷◌, Option, Some, None, refl, sym, ◌∙◌, slice_set, map, arith}
use Rattle.law_lists.proofs.Tests.{chosen}
use Rattle.ct_entry.specs.declared.acts.Deed.{Deed}
use Rattle.ct_entry.specs.declared.acts.Owned.{Owned}
use Rattle.def_machine.specs.State.{State, Frame, thread}
use Rattle.def_sched.specs.Picks.{pick, moved_last}
use Rattle.def_machine.specs.Threads.{Clockwork, picked, timed, statuses_of}
use Rattle.def_step.specs.declared.Event.{Event}
use Rattle.def_step.specs.declared.Event.TheVariants.{Step, Tick, Sweep, Input}
use Rattle.def_step.specs.Instructions.{executed, actor_of}
use Rattle.def_machine.specs.Platform.{Platform}
use Rattle.def_step.specs.Devices.{device, after_input}
use Rattle.def_step.specs.Events.{noted, with_deed, preempted_from, preempted, picked_as, picked_from, scheduled, continued, one_more_step, stepped, interrupted, ticked, swept_on, received, holder_by, holder, is_holder, begun_since, begun, happens}
use Rattle.def_confined.specs.Facts.{Facts}
use Rattle.def_safety.specs.Wired.{Wired}
use Rattle.def_confined.specs.Confined.{Confined}
use Rattle.def_confined.specs.Partitioned.{Partitioned}
use Rattle.def_confined.specs.Licensed.{Licensed, OffLicensed}
use Rattle.law_moves.proofs.Turns.{beside_confined, clock_of}
use Rattle.law_moves.proofs.TurnsMoves.{pick_confined, clock_confined}
use Rattle.law_moves.proofs.Deeds.{off_licensed}
use Rattle.def_confined.specs.Holding.{EndedOn, EndsFit}
use Rattle.def_confined.specs.Keeps.{Beside, Keeps}
use Rattle.law_moves.proofs.Ends.{swept_keeps}
use Rattle.law_moves.proofs.Ticks.{timed_keeps}
use Rattle.law_moves.proofs.SweepsMoves.{ram_same, moved_beside, clock_beside, stopped_beside, picked_left}
use Rattle.law_events.proofs.Fairness.{Fair, some_same, none_licensed}
use Rattle.law_events.proofs.Steps.{executed_fair}

-- ---- who runs, and the clockwork

-- none runs that didn't
none_runs : (s : State) (u : ℕ) → None ≡ Some u → s.running ≡ Some u
none_runs s u e = absurd (let clash : None ≡ Some u = e in cc)

-- what a change leaves of a state
pub record Kept (b : Platform) (s new : State) : Type 0 where
  pub confined : Confined b.image new
  pub beside : Beside b.image s → Beside b.image new

clock_kept : (b : Platform) (s : State) (w : Clockwork) → Confined b.image s → Kept b s (record s { pending = w.pending; devices = w.devices; time = w.time; picks = w.picks; counts = w.counts })
clock_kept b s w h = record { confined = clock_confined b.image s w h; beside = clock_beside b.image s w }

stops_kept : (b : Platform) (s : State) (w : Clockwork) → Confined b.image s → Kept b s (record s { running = None; pending = w.pending; devices = w.devices; time = w.time; picks = w.picks; counts = w.counts })
stops_kept b s w h = record { confined = beside_confined b.image s s.tokens None w (none_runs s) h; beside = stopped_beside b.image s w h }

same_kept : (b : Platform) (s : State) → Confined b.image s → Kept b s s
same_kept b s h = record { confined = h; beside = λ e. e }

-- ---- before a step

preempted_kept : (b : Platform) (s : State) (o : Option ℕ) → Confined b.image s → Kept b s (preempted_from s o)
preempted_kept b s None h = same_kept b s h
preempted_kept b s (Some t) h = chosen (Kept b s) (s.pending && not (thread s t).posture.off) (record s { running = None; pending = false }) s
    (λ is. stops_kept b s (record (clock_of s) { pending = false }) h)
    (λ none. same_kept b s h)

picked_kept : (b : Platform) (s : State) (o : Option ℕ) → s.running ≡ o → Partitioned b.image → Confined b.image s → Kept b s (picked_from b s o)
picked_kept b s (Some t) runs parts h = same_kept b s h
picked_kept b s None idle parts h = as_kept (pick b.image.priorities (statuses_of s.threads) s.picks)
  where
    as_kept : (p : Option ℕ) → Kept b s (picked_as b s p)
    as_kept None = same_kept b s h
    as_kept (Some t) = record {
      confined = pick_confined b.image s t (record (clock_of s) { picks = moved_last t s.picks }) parts h;
      beside = λ e. moved_beside b.image s t s.granules (picked b.image s (thread s t)) (Some t) (record (clock_of s) { picks = moved_last t s.picks }) (ram_same b.image s) (picked_left b.image s t idle e) e;
    }

-- ---- a step

noted_fair : (b : Platform) (s : State) (r : State × Option Deed) → Fair b s r → Fair b s (noted r)
noted_fair b s r f = record {
  confined = clock_confined b.image r.0 (record (clock_of r.0) { counts = with_deed r.0.counts r.1 }) f.confined;
  licensed = f.licensed;
  beside = λ e. clock_beside b.image r.0 (record (clock_of r.0) { counts = with_deed r.0.counts r.1 }) (f.beside e);
}

continued_fair : (b : Platform) (s : State) (o : Option ℕ) → s.running ≡ o → Partitioned b.image → Facts b.image → Wired b → Keeps b.image s → Fair b s (continued b s o)
continued_fair b s None runs parts facts wired k = record { confined = k.confined; licensed = none_licensed b; beside = λ e. e }
continued_fair b s (Some t) runs parts facts wired k = noted_fair b s (executed b s t) (executed_fair b s t parts facts wired k runs)

-- the state in which a step's thread carries on
pub ready_kept : (b : Platform) (s : State) → Partitioned b.image → Confined b.image s → Kept b s (scheduled b (preempted (one_more_step s)))
ready_kept b s parts h =
    let counted = clock_kept b s (record (clock_of s) { counts = record s.counts { steps = s.counts.steps + 1 } }) h in
    let before = preempted_kept b (one_more_step s) (one_more_step s).running counted.confined in
    let chosen_one = picked_kept b (preempted (one_more_step s)) (preempted (one_more_step s)).running refl parts before.confined in
    record { confined = chosen_one.confined; beside = λ e. chosen_one.beside (before.beside (counted.beside e)) }

-- the state in which the thread of a step carries on is confined, and what stands beside
pub ready_keeps : (b : Platform) (s : State) → Partitioned b.image → Keeps b.image s → Keeps b.image (scheduled b (preempted (one_more_step s)))
ready_keeps b s parts k = let ready = ready_kept b s parts k.confined in record { confined = ready.confined; beside = ready.beside k.beside }

-- what an event leaves of a state, and that what it tells is licensed
pub record EventFair (b : Platform) (r : State × Option Deed) : Type 0 where
  pub keeps : Keeps b.image r.0
  pub licensed : (d : Deed) → r.1 ≡ Some d → Licensed b.image.entries d

fair_whole : (b : Platform) (s : State) (r : State × Option Deed) → Beside b.image s → Fair b s r → EventFair b r
fair_whole b s r beside f = record { keeps = record { confined = f.confined; beside = f.beside beside }; licensed = f.licensed }

stepped_fair : (b : Platform) (s : State) → Partitioned b.image → Facts b.image → Wired b → Keeps b.image s → EventFair b (stepped b s)
stepped_fair b s parts facts wired k =
    let ready = ready_keeps b s parts k in
    fair_whole b (scheduled b (preempted (one_more_step s))) (stepped b s) ready.beside
    (continued_fair b (scheduled b (preempted (one_more_step s))) (scheduled b (preempted (one_more_step s))).running refl parts facts wired ready)

-- ---- a tick

ticked_kept : (b : Platform) (s : State) (o : Option ℕ) → Confined b.image s → Kept b s (interrupted s o)
ticked_kept b s None h = same_kept b s h
ticked_kept b s (Some t) h = chosen (Kept b s) (thread s t).posture.off (record s { pending = true }) (record s { running = None })
    (λ is. clock_kept b s (record (clock_of s) { pending = true }) h)
    (λ none. stops_kept b s (clock_of s) h)

-- ---- spans with interrupts off

off_by_frames : (b : Platform) (s : State) (t : ℕ) (fs : List Frame) → (thread s t).frames ≡ fs → Wired b → Confined b.image s → EndedOn s → (thread s t).posture.off ≡ true
    → OffLicensed b.image.entries (record { thread = t; actor = actor_of fs; export = (thread s t).posture.source })
off_by_frames b s t [] e wired h on off = absurd (let clash : true ≡ false = sym off ∙ on t e in cc)
off_by_frames b s t (f ∷ fs) e wired h on off = off_licensed b.image s t f fs wired.gates h e off

abbrev pub HolderFits : Platform → State → Option (ℕ × ℕ) → Type 0
HolderFits b s None = Unit {0}
HolderFits b s (Some h) = OffLicensed b.image.entries (record { thread = h.0; actor = actor_of (thread s h.0).frames; export = h.1 })

holder_fits : (b : Platform) (s : State) (o : Option ℕ) → Wired b → Confined b.image s → EndedOn s → HolderFits b s (holder_by s o)
holder_fits b s None wired h on = tt
holder_fits b s (Some t) wired h on = chosen (HolderFits b s) (thread s t).posture.off (Some (t, (thread s t).posture.source)) None
    (λ off. off_by_frames b s t (thread s t).frames refl wired h on off)
    (λ none. tt)

begun_fits : (b : Platform) (s : State) (before now : Option (ℕ × ℕ)) → HolderFits b s now → (o : Owned) → begun_since before s now ≡ Some o → OffLicensed b.image.entries o
begun_fits b s before None fits o e = absurd (let clash : None ≡ Some o = e in cc)
begun_fits b s before (Some h) fits o e = chosen (λ (z : Option Owned). z ≡ Some o → OffLicensed b.image.entries o) (is_holder before h.0 h.1)
    None
    (Some (record { thread = h.0; actor = actor_of (thread s h.0).frames; export = h.1 }))
    (λ is same. absurd (let clash : None ≡ Some o = same in cc))
    (λ none same. some_same (OffLicensed b.image.entries) (record { thread = h.0; actor = actor_of (thread s h.0).frames; export = h.1 }) o same fits)
    e

pub spans_fit : (b : Platform) (before after : State) (o : Owned) → Wired b → Confined b.image after → EndedOn after → begun before after ≡ Some o → OffLicensed b.image.entries o
spans_fit b before after o wired h on = begun_fits b after (holder before) (holder after) (holder_fits b after after.running wired h on) o

-- ---- an event

ended_on : (s : State) → EndsFit s → EndedOn s
ended_on s h = λ t e. ((h t).none e).1

counted_keeps : (b : Platform) (s : State) (w : Clockwork) → Keeps b.image s → Keeps b.image (record s { pending = w.pending; devices = w.devices; time = w.time; picks = w.picks; counts = w.counts })
counted_keeps b s w k = record { confined = clock_confined b.image s w k.confined; beside = clock_beside b.image s w k.beside }

event_fair : (b : Platform) (s : State) (e : Event) → Partitioned b.image → Facts b.image → Wired b → Keeps b.image s → EventFair b ((happens b s e).0, (happens b s e).1.deed)
event_fair b s Step parts facts wired k = stepped_fair b s parts facts wired k
event_fair b s Tick parts facts wired k =
    let slept = timed_keeps b.image s k in
    let counted = counted_keeps b (record s { threads = map timed s.threads }) (record (clock_of s) { time = s.time + 1; counts = record s.counts { ticks = s.counts.ticks + 1 } }) slept in
    let after = ticked_kept b (record s { threads = map timed s.threads; time = s.time + 1; counts = record s.counts { ticks = s.counts.ticks + 1 } }) s.running counted.confined in
    record { keeps = record { confined = after.confined; beside = after.beside counted.beside }; licensed = none_licensed b }
event_fair b s Sweep parts facts wired k =
    let counted = counted_keeps b s (record (clock_of s) { counts = record s.counts { sweeps = s.counts.sweeps + 1 } }) k in
    record { keeps = swept_keeps b.image (record s { counts = record s.counts { sweeps = s.counts.sweeps + 1 } }) parts counted; licensed = none_licensed b }
event_fair b s (Input n byte) parts facts wired k = record {
  keeps = counted_keeps b s (record (clock_of s) { devices = slice_set s.devices n (after_input (device s.devices n) byte); counts = record s.counts { inputs = s.counts.inputs + 1 } }) k;
  licensed = none_licensed b;
}

event_span : (b : Platform) (s : State) (e : Event) (o : Owned) → Wired b → Keeps b.image (happens b s e).0 → (happens b s e).1.off ≡ Some o → OffLicensed b.image.entries o
event_span b s Step o wired k is = spans_fit b s (stepped b s).0 o wired k.confined (ended_on (stepped b s).0 k.beside.ends) is
event_span b s Tick o wired k is = spans_fit b s (ticked s) o wired k.confined (ended_on (ticked s) k.beside.ends) is
event_span b s Sweep o wired k is = spans_fit b s (swept_on b s) o wired k.confined (ended_on (swept_on b s) k.beside.ends) is
event_span b s (Input n byte) o wired k is = spans_fit b s (received s n byte) o wired k.confined (ended_on (received s n byte) k.beside.ends) is

-- ---- the laws

pub event_keeps : (b : Platform) (s : State) (e : Event) → Partitioned b.image → Facts b.image → Wired b → Keeps b.image s → Keeps b.image (happens b s e).0
event_keeps b s e parts facts wired k = (event_fair b s e parts facts wired k).keeps

pub deed_licensed : (b : Platform) (s : State) (e : Event) (d : Deed) → Partitioned b.image → Facts b.image → Wired b → Keeps b.image s → (happens b s e).1.deed ≡ Some d → Licensed b.image.entries d
deed_licensed b s e d parts facts wired k is = (event_fair b s e parts facts wired k).licensed d is

pub span_licensed : (b : Platform) (s : State) (e : Event) (o : Owned) → Partitioned b.image → Facts b.image → Wired b → Keeps b.image s → (happens b s e).1.off ≡ Some o → OffLicensed b.image.entries o
span_licensed b s e o parts facts wired k is = event_span b s e o wired (event_keeps b s e parts facts wired k) is
