-- Turns of threads: what the written machine does in each case, and that what the code leaves is that.
use Rattle.std.proofs.Common.{ℕ, ◌≡◌, Bool, true, false, option_map, if◌then◌else◌, List, [], ◌∷◌, length, map, ◌<◌, Option, Some, None, refl, sym, ap, ◌∙◌, arith}
use Rattle.std.proofs.Math.ListN.{get_or}
use Rattle.law_lists.proofs.Finds.{find_tells}
use Rattle.law_lists.proofs.Tests.{both_left}
use Rattle.ct_entry.specs.declared.acts.Owned.{Owned}
use Rattle.def_words.specs.declared.Posture.{Posture}
use Rattle.def_sched.specs.declared.Status.{Status}
use Rattle.def_sched.specs.declared.Status.TheVariants.{Ready, Ended}
use Rattle.def_sched.specs.Statuses.{after_tick, is_ready, status_of}
use Rattle.def_sched.specs.Picks.{pick, is_foremost}
use Rattle.def_machine.specs.Image.{Image}
use Rattle.ct_entry.specs.declared.acts.Happened.{Happened}
use Rattle.def_confined.specs.Holding.{EndsFit}
use Rattle.def_machine.specs.State.{State, Thread, Frame, thread, nobody}
use Rattle.def_machine.specs.Threads.{with_statuses, statuses_of, picked_with}
use Rattle.def_machine.specs.Memory.{filtered_in}
use Rattle.def_step.specs.Instructions.{actor_of}
use Rattle.def_machine.specs.Platform.{Platform, MachineRow}
use Rattle.def_step.specs.Events.{preempted_from, preempted, picked_as, picked_from, scheduled, interrupted, holder_by, holder, is_holder, begun_since, begun, ticked, told_of}
use Rattle.ct_sched.specs.Sched.{SchedRow, after_pick}
use Rattle.ct_sched.specs.Sched as sched
use Rattle.ct_engine.specs.declared.rows.Region.{Region}
use Rattle.ct_engine.specs.Seen as engine
use Rattle.ct_engine.specs.Seen.{resumed, EngineRow}
use Rattle.ct_machine.specs.declared.parts.Parts.TheInside.{Inside}
use Rattle.ct_machine.specs.Parts.{state_by, IsKept}
use Rattle.ct_machine.specs.Going.{clock_on, sleepers_on}
use Rattle.ct_execute.proofs.Statuses.{changed_with, like_with, statuses_with}
use Rattle.ct_machine.proofs.Statuses.{timed_with}
use Rattle.law_events.proofs.Waiting.{given_status}

-- ---- what is seen of the machine's parts

module _ {M : Type 0} (i : Inside M) where
  abbrev pub board_in : Platform
  board_in = record { image = i.plan; bases = i.bus.bases }

  abbrev pub state_with_row : EngineRow → SchedRow → State
  state_with_row e r = state_by e r i.pending i.bus.states i.time i.counts

  abbrev pub state_in : State
  state_in = state_with_row i.engine i.sched

  abbrev pub machine_in : MachineRow
  machine_in = record { board = board_in; state = state_in }

-- RAM begins where the image says
pub ram_is : (i : Image) (e : EngineRow) (r : SchedRow) → IsKept i e r → e.region.ram ≡ i.ram
ram_is i e r kept = ap (λ (g : Region). g.ram) kept.region

-- ---- who holds interrupts off

pub holder_none : (s : State) (o : Option ℕ) → o ≡ None → holder_by s o ≡ None
holder_none s o none = rw none refl

pub posture_with : (ts : List Thread) (ss : List Status) (t : ℕ) → (get_or (with_statuses ts ss) t nobody).posture ≡ (get_or ts t nobody).posture
posture_with ts ss t = ap (λ (u : Thread). u.posture) (like_with ts ss t Ready)

pub frames_with : (ts : List Thread) (ss : List Status) (t : ℕ) → (get_or (with_statuses ts ss) t nobody).frames ≡ (get_or ts t nobody).frames
frames_with ts ss t = ap (λ (u : Thread). u.frames) (like_with ts ss t Ready)

-- Thread t runs in this posture.
pub record RunsAs (s : State) (t : ℕ) (p : Posture) : Type 0 where
  pub runs : s.running ≡ Some t
  pub posture : (thread s t).posture ≡ p

pub runs_as : {M : Type 0} (i : Inside M) {t : ℕ} {p : Posture} → Some t ≡ i.engine.state.running → p ≡ (engine.thread i.engine t).posture → RunsAs (state_in i) t p
runs_as i {t} runs is = record { runs = sym runs; posture = posture_with i.engine.state.threads i.sched.statuses t ∙ sym is }

module _ {s : State} {t : ℕ} {p : Posture} (h : RunsAs s t p) where
  pub holder_on : p.off ≡ true → Some (t, p.source) ≡ holder s
  holder_on on = rw (h.runs, h.posture, on) refl

  pub holder_off : p.off ≡ false → None ≡ holder s
  holder_off off = rw (h.runs, h.posture, off) refl

  -- a tick is pending, or comes: the thread stops, or interrupts wait
  pub stops_preempted : s.pending ≡ true → p.off ≡ false → record s { running = None; pending = false } ≡ preempted s
  stops_preempted late on = sym (ap (preempted_from s) h.runs ∙ rw (late, h.posture, on) refl)

  pub stays_preempted : s.pending ≡ true → p.off ≡ true → s ≡ preempted s
  stays_preempted late off = sym (ap (preempted_from s) h.runs ∙ rw (late, h.posture, off) refl)

  pub waits_interrupted : p.off ≡ true → record s { pending = true } ≡ interrupted s s.running
  waits_interrupted off = sym (ap (interrupted s) h.runs ∙ rw (h.posture, off) refl)

  pub stops_interrupted : p.off ≡ false → record s { running = None } ≡ interrupted s s.running
  stops_interrupted on = sym (ap (interrupted s) h.runs ∙ rw (h.posture, on) refl)

-- who holds them off runs
pub holder_runs : (s : State) (o : Option ℕ) (h : ℕ × ℕ) → Some h ≡ holder_by s o → o ≡ Some h.0
holder_runs s None h is = absurd (cc)
holder_runs s (Some t) h is = by_off (thread s t).posture.off is
  where
    by_off : (off : Bool) → Some h ≡ (if off then Some (t, (thread s t).posture.source) else None) → Some t ≡ Some h.0
    by_off true held = ap (option_map (λ (x : ℕ × ℕ). x.0)) (sym held)
    by_off false held = absurd (cc)

-- a span of another begins
pub begun_new : (before : Option (ℕ × ℕ)) (s : State) (h : ℕ × ℕ) (actor : ℕ) → Some h ≡ holder s → false ≡ is_holder before h.0 h.1 → actor ≡ actor_of (thread s h.0).frames
    → Some (record { thread = h.0; actor = actor; export = h.1 }) ≡ begun_since before s (holder s)
begun_new before s h actor is other who = rw (sym is, sym other, who) refl

-- ---- a thread stops

still_preempted : (s : State) (o : Option ℕ) → s.pending ≡ false → preempted_from s o ≡ s
still_preempted s None e = refl
still_preempted s (Some t) e = rw e refl

pub not_pending : (s : State) → s.pending ≡ false → preempted s ≡ s
not_pending s e = still_preempted s s.running e

pub none_preempted : (s : State) → s.running ≡ None → preempted s ≡ s
none_preempted s none = ap (preempted_from s) none

-- ---- a thread is picked

pub runs_scheduled : (b : Platform) (s : State) (t : ℕ) → s.running ≡ Some t → scheduled b s ≡ s
runs_scheduled b s t runs = ap (picked_from b s) runs

module _ {M : Type 0} (i : Inside M) (kept : IsKept i.plan i.engine i.sched) where
  -- what the scheduler would pick
  pub pick_is : pick i.sched.priorities i.sched.statuses i.sched.order ≡ pick i.plan.priorities (statuses_of (state_in i).threads) i.sched.order
  pick_is =
      ap (λ ps. pick ps i.sched.statuses i.sched.order) kept.priorities
      ∙ ap (λ ss. pick i.plan.priorities ss i.sched.order) (sym (statuses_with i.engine.state.threads i.sched.statuses kept.statuses))

  picks_as : (o : Option ℕ) → None ≡ i.engine.state.running → o ≡ pick i.sched.priorities i.sched.statuses i.sched.order
      → picked_as (board_in i) (state_in i) o ≡ scheduled (board_in i) (state_in i)
  picks_as o idle is = ap (picked_as (board_in i) (state_in i)) (is ∙ pick_is) ∙ ap (picked_from (board_in i) (state_in i)) idle

  pub none_is : (r : SchedRow) → None ≡ i.engine.state.running → None ≡ pick i.sched.priorities i.sched.statuses i.sched.order → r ≡ after_pick i.sched None
      → state_with_row i i.engine r ≡ scheduled (board_in i) (state_in i)
  none_is r idle is row = ap (state_with_row i i.engine) row ∙ picks_as None idle is

  pub some_is : (e : EngineRow) (r : SchedRow) (t : ℕ) → None ≡ i.engine.state.running → Some t ≡ pick i.sched.priorities i.sched.statuses i.sched.order → e ≡ resumed i.engine t → r ≡ after_pick i.sched (Some t)
      → state_with_row i e r ≡ scheduled (board_in i) (state_in i)
  some_is e r t idle is now row =
      let there = sym (changed_with (picked_with (filtered_in i.engine.region.ram i.engine.state.granules)) (λ x q. refl) i.engine.state.threads i.sched.statuses t) in
      rw (now, row, there, ram_is i.plan i.engine i.sched kept) (picks_as (Some t) idle is)

-- ---- who is picked has frames

unready : (s : Status) → s ≡ Ended → is_ready s ≡ true → ⊥
unready s is ready = let clash : false ≡ true = sym (ap is_ready is) ∙ ready in cc

some_frames : (fs : List Frame) → (fs ≡ [] → ⊥) → 0 < length fs
some_frames [] some = absurd (some refl)
some_frames (f ∷ fs) some = omega arith

pub picked_alive : {M : Type 0} (i : Inside M) (t : ℕ) → length i.sched.statuses ≡ length i.engine.state.threads → EndsFit (state_in i)
    → Some t ≡ pick i.sched.priorities i.sched.statuses i.sched.order → 0 < length (engine.thread i.engine t).frames
picked_alive i t many ends is =
    let e : EngineRow = i.engine in
    let r : SchedRow = i.sched in
    let ready : is_ready (status_of r.statuses t) ≡ true = both_left (is_ready (status_of r.statuses t)) _ (find_tells (is_foremost r.priorities r.statuses r.order) r.order t (sym is)).passes in
    let status : (get_or (with_statuses e.state.threads r.statuses) t nobody).status ≡ get_or r.statuses t Ended = ap (λ (u : Thread). u.status) (given_status e.state.threads r.statuses t many) in
    some_frames (engine.thread e t).frames
    (λ none. unready (status_of r.statuses t) (sym status ∙ ((ends t).none (frames_with e.state.threads r.statuses t ∙ none)).0) ready)

-- ---- a tick

pub timed_is : {M : Type 0} (i : Inside M) (r : SchedRow) → length i.sched.statuses ≡ length i.engine.state.threads → r ≡ sched.with_statuses i.sched (map after_tick i.sched.statuses)
    → state_with_row i i.engine r ≡ sleepers_on (state_in i)
timed_is i r many is = rw (is, timed_with i.engine.state.threads i.sched.statuses many) refl

pub ticked_as : (s mid new : State) (before : Option (ℕ × ℕ)) (off : Option Owned) → mid ≡ sleepers_on (clock_on s) → new ≡ interrupted mid mid.running → before ≡ holder s → off ≡ begun_since before new (holder new)
    → (new, record { deed = None; off = off }) ≡ told_of s (ticked s, None)
ticked_as s mid new before off is after was begins =
    let there : new ≡ ticked s = after ∙ ap (λ (m : State). interrupted m m.running) is in
    let begun_is : off ≡ begun s new = begins ∙ ap (λ b. begun_since b new (holder new)) was in
    ap (λ (o : Option Owned). told_with new o) begun_is ∙ ap (λ (n : State). told_with n (begun s n)) there
  where
    told_with : State → Option Owned → State × Happened
    told_with n o = (n, record { deed = None; off = o })
