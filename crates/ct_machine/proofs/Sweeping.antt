-- What a slice of the revoker leaves of the engine is what the written sweep leaves, and what it asks where it ends.
use Rattle.std.proofs.Common.{ℕ, suc, ◌+◌, ◌*◌, ◌≡◌, ◌≤◌, true, min, nat_le, List, [], ◌∷◌, length, Option, Some, None, refl, sym, ap, ◌∙◌, subst}
use Rattle.law_lists.proofs.Tests.{chosen}
use Rattle.ct_entry.specs.declared.acts.Happened.{Happened}
use Rattle.ct_entry.specs.declared.acts.Owned.{Owned}
use Rattle.def_words.specs.declared.Cap.{Cap}
use Rattle.def_sched.specs.declared.Status.TheVariants.{Ready}
use Rattle.def_events.specs.Guarded.{Guarded}
use Rattle.def_confined.specs.Keeps.{Keeps}
use Rattle.def_confined.specs.Partitioned.{Partitioned}
use Rattle.def_confined.specs.Facts.{RootsAway}
use Rattle.def_machine.specs.Image.{Image}
use Rattle.def_machine.specs.State.{State, Thread, Frame, Counts, thread}
use Rattle.def_machine.specs.Objects.{Each, has_quarantined, painted}
use Rattle.def_machine.specs.Heap as heap
use Rattle.def_machine.specs.Slices.{is_number, kept_threads}
use Rattle.def_machine.specs.Threads.{with_status}
use Rattle.def_machine.specs.Platform.{MachineRow}
use Rattle.def_step.specs.Events.{happens, begun, swept_on}
use Rattle.def_step.specs.declared.Event.TheVariants.{Sweep}
use Rattle.def_confined.specs.Stale.{SavedClean, StoppedClean, IsClean}
use Rattle.law_moves.proofs.Ending.{ends_clean}
use Rattle.law_moves.proofs.Slices.{is_itself, slice_length, thread_sliced}
use Rattle.law_moves.proofs.Begins as law
use Rattle.law_events.proofs.Waiting.{given_length}
use Rattle.law_history.proofs.Sweeping.{swept_case, sliced_case, sliced_from}
use Rattle.law_truly.proofs.Changes.{sweep_calm}
use Rattle.law_truly.proofs.Spans.{calm_begins_none}
use Rattle.ct_engine.specs.Seen as engine
use Rattle.ct_engine.specs.Written.{HasAreas}
use Rattle.ct_engine.specs.Seen.{EngineRow}
use Rattle.ct_engine.specs.Sweeps.{NoneLeft, size_of, began, with_slice, over, slice_end, passed_on, swept_by}
use Rattle.ct_engine.proofs.Shown.{began_shown, began_areas, swept_shown}
use Rattle.ct_engine.proofs.Sliced.{slice_written}
use Rattle.ct_machine.specs.declared.parts.Parts.TheInside.{Inside}
use Rattle.ct_machine.specs.Parts.{IsCounted, IsKept}
use Rattle.ct_machine.specs.Going.{silence}
use Rattle.ct_execute.proofs.Statuses.{like_with}
use Rattle.ct_machine.proofs.Taking.{ram_is, frames_with, machine_in, state_in, state_with_row}
use Rattle.ct_machine.proofs.Keeping.{StaysElse, same_kept, still_ready}
use Rattle.ct_machine.proofs.Appending.{with_silence}
use Rattle.law_moves.proofs.Ends.{unmarked_length}

-- ---- what a slice leaves of a state

-- who runs, what was counted, how large RAM is, how many threads there are, and of the running one its program counter
pub record SweepLeaves (s n : State) : Type 0 where
  pub running : n.running ≡ s.running
  pub pending : n.pending ≡ s.pending
  pub counts : n.counts ≡ s.counts
  pub next : n.next ≡ s.next
  pub size : length n.granules ≡ length s.granules
  pub threads : length n.threads ≡ length s.threads
  pub pcc : (t : ℕ) → s.running ≡ Some t → (thread n t).pcc ≡ (thread s t).pcc

threads_many : (keep : ℕ → Cap → Cap) (area : ℕ → ℕ) (running : Option ℕ) (n : ℕ) (ts : List Thread) → length (kept_threads keep area running n ts) ≡ length ts
threads_many keep area running n [] = refl
threads_many keep area running n (t ∷ ts) = ap suc (threads_many keep area running (n + 1) ts)

sliced_leaves : (i : Image) (s : State) (x : ℕ) → SweepLeaves s (sliced_from i s x)
sliced_leaves i s x =
    let high : ℕ = heap.slice_end i s x in
    let w : SweepLeaves s (heap.with_slice i s x high) = record {
      running = refl;
      pending = refl;
      counts = refl;
      next = refl;
      size = slice_length i s x high 0 s.granules;
      threads = threads_many (heap.sliced i s x high) (heap.area_offset i) s.running 0 s.threads;
      pcc = λ t runs. thread_sliced (λ m a b. b.pcc ≡ a.pcc) i s x high t (λ n. refl)
          (let is : is_number s.running t ≡ true = ap (λ o. is_number o t) runs ∙ is_itself t in rw is refl);
    } in
    sliced_case (SweepLeaves s) i s x
    (λ over. record { running = refl; pending = refl; counts = refl; next = refl; size = unmarked_length s.objects i.ram _ ∙ w.size; threads = w.threads; pcc = w.pcc })
    (λ on. w)

pub swept_leaves : (i : Image) (s : State) → SweepLeaves s (heap.swept i s)
swept_leaves i s =
    swept_case (SweepLeaves s) i s
    (λ none idle. record { running = refl; pending = refl; counts = refl; next = refl; size = refl; threads = refl; pcc = λ t runs. refl })
    (λ none some. let h = sliced_leaves i (law.begun s) 0 in
    record { running = h.running; pending = h.pending; counts = h.counts; next = h.next; size = h.size; threads = h.threads; pcc = h.pcc })
    (λ x runs. sliced_leaves i s x)

-- ---- and of an engine, beside threads and memory

passed_else : (e : EngineRow) (rate : ℕ) (o : Option ℕ) → StaysElse e (passed_on e rate o)
passed_else e rate None = refl
passed_else e rate (Some front) =
    let w : EngineRow = with_slice e front (slice_end e rate front) in
    chosen (StaysElse e) (nat_le (size_of w) (slice_end e rate front)) (over w) w (λ is. refl) (λ not_. refl)

swept_else : (e : EngineRow) (rate : ℕ) → StaysElse e (swept_by e rate)
swept_else e rate = by e.state.front
  where
    by : (o : Option ℕ) → StaysElse e (passed_on (began e o) rate (began e o).state.front)
    by (Some front) = passed_else e rate e.state.front
    by None =
        let begun_ : EngineRow = record e { state = record e.state { objects = painted e.state.objects; front = Some 0 } } in
        chosen (λ (x : EngineRow). StaysElse e (passed_on x rate x.state.front)) (has_quarantined e.state.objects) begun_ e
        (λ is. passed_else begun_ rate (Some 0)) (λ not_. passed_else e rate e.state.front)

-- ---- what it asks where it ends

module _ {M : Type 0} (p : Inside M) (kept : IsKept p.plan p.engine p.sched) where
  pub areas_are : HasAreas p.plan p.engine
  areas_are = record { ram = ram_is p.plan p.engine p.sched kept; count = kept.threads; begins = λ t within. (kept.areas.each t within).begin_is }

  -- what the state holds nowhere the engine doesn't either
  none_in : (x : EngineRow) → IsClean (state_with_row p x p.sched) → NoneLeft x.state.objects x
  none_in x h = record {
    granules = h.granules;
    frames = λ t. subst (λ (fs : List Frame). Each (SavedClean x.state.objects) fs) (frames_with x.state.threads p.sched.statuses t) (h.frames t);
    stopped = λ t other.
        let clean = h.stopped t other in
        let alike = like_with x.state.threads p.sched.statuses t Ready in
        let same : StoppedClean x.state.objects (with_status (engine.thread x t) Ready) =
        subst (λ (u : Thread). StoppedClean x.state.objects u) alike (record { pcc = clean.pcc; registers = clean.registers }) in
        record { pcc = same.pcc; registers = same.registers };
  }

  pub none_left : (rate : ℕ) → rate ≡ p.plan.sweep → Partitioned p.plan → RootsAway p.plan → Keeps p.plan (state_in p) → (front : ℕ) → (began p.engine p.engine.state.front).state.front ≡ Some front → size_of p.engine ≤ slice_end p.engine rate front
      → NoneLeft (began p.engine p.engine.state.front).state.objects (with_slice (began p.engine p.engine.state.front) front (slice_end p.engine rate front))
  none_left rate same parts away keeps front runs whole =
      let there : (heap.sweep_began (state_in p) (state_in p).front).front ≡ Some front = ap (λ (s : State). s.front) (began_shown p.plan (state_in p) p.engine p.sched.statuses p.engine.state.front) ∙ runs in
      let end : slice_end p.engine rate front ≡ heap.slice_end p.plan (state_in p) front = ap (λ n. min (front + 8 * n) (size_of p.engine)) same in
      let law = ends_clean p.plan (state_in p) front parts away keeps there (subst (λ n. size_of p.engine ≤ n) end whole) in
      let seen = ap (λ (s : State). heap.with_slice p.plan s front (heap.slice_end p.plan (state_in p) front)) (began_shown p.plan (state_in p) p.engine p.sched.statuses p.engine.state.front)
      ∙ slice_written p.plan (state_in p) (began p.engine p.engine.state.front) p.sched.statuses front (heap.slice_end p.plan (state_in p) front) (began_areas p.plan p.engine p.engine.state.front areas_are) in
      subst (λ n. NoneLeft (began p.engine p.engine.state.front).state.objects (with_slice (began p.engine p.engine.state.front) front n)) (sym end)
      (none_in (with_slice (began p.engine p.engine.state.front) front (heap.slice_end p.plan (state_in p) front)) (subst IsClean seen law))

  -- what it leaves is what the written sweep leaves
  pub swept_is : (new : EngineRow) (rate : ℕ) → rate ≡ p.plan.sweep → new ≡ swept_by p.engine rate → state_with_row p new p.sched ≡ heap.swept p.plan (state_in p)
  swept_is new rate same is =
      ap (λ x. state_with_row p x p.sched) is ∙ ap (λ n. state_with_row p (swept_by p.engine n) p.sched) same ∙ sym (swept_shown p.plan (state_in p) p.engine p.sched.statuses areas_are)

  pub swept_kept : (new : EngineRow) (rate : ℕ) → rate ≡ p.plan.sweep → new ≡ swept_by p.engine rate → IsCounted p.counts p.time p.engine.state.next → IsKept p.plan new p.sched × IsCounted p.counts p.time new.state.next
  swept_kept new rate same is counted =
      let whole = swept_is new rate same is in
      let left = swept_leaves p.plan (state_in p) in (
        same_kept p.plan p.engine new p.sched kept (subst (StaysElse p.engine) (sym is) (swept_else p.engine rate)) (ap (λ (s : State). length s.granules) whole ∙ left.size)
            (sym (given_length new.state.threads p.sched.statuses) ∙ ap (λ (s : State). length s.threads) whole ∙ left.threads ∙ given_length p.engine.state.threads p.sched.statuses)
            (still_ready p.engine new p.sched.statuses kept.ready (ap (λ (s : State). s.running) whole ∙ left.running)),
        subst (IsCounted p.counts p.time) (sym (ap (λ (s : State). s.next) whole ∙ left.next)) counted,
      )

-- ---- the event, which tells nothing

pub sweep_told : (m : MachineRow) (new : State) → Guarded m → new ≡ swept_on m.board m.state → (new, silence) ≡ happens m.board m.state Sweep
sweep_told m new g is = ap with_silence is ∙ ap (λ (o : Option Owned). with_off o) (sym (none_but (begun m.state after) (λ o some. calm_begins_none m.state after o (sweep_calm m.board m.state g.keeps) some)))
  where
    after : State
    after = swept_on m.board m.state

    with_off : Option Owned → State × Happened
    with_off o = (after, record { deed = None; off = o })

    none_but : (x : Option Owned) → ((o : Owned) → x ≡ Some o → ⊥) → x ≡ None
    none_but None not_ = refl
    none_but (Some o) not_ = absurd (not_ o refl)

pub sweep_happens : {M : Type 0} (p : Inside M) {now : MachineRow} (new : EngineRow) (counted : Counts) (rate : ℕ) → IsKept p.plan p.engine p.sched → machine_in p ≡ now → Guarded now → rate ≡ p.plan.sweep
    → new ≡ swept_by p.engine rate → counted ≡ record p.counts { sweeps = p.counts.sweeps + 1 } → (state_with_row (record p { counts = counted }) new p.sched, silence) ≡ happens now.board now.state Sweep
sweep_happens p {now} new counted rate kept seen g same is count =
    sweep_told now _ g
    (swept_is (record p { counts = counted }) kept new rate same is
    ∙ ap (λ (k : Counts). heap.swept p.plan (state_in (record p { counts = k }))) count
    ∙ ap (λ (m : MachineRow). swept_on m.board m.state) seen)
