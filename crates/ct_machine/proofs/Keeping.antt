-- What is kept beside the state is kept by a step.
use Rattle.std.proofs.Common.{ℕ, zero, suc, ◌*◌, ◌≡◌, Bool, true, false, inl, inr, nat_lt, map, List, [], ◌∷◌, length, Option, Some, None, refl, sym, ap, ◌∙◌, subst, arith}
use Rattle.std.proofs.lemmas.List.{length-set, length-map}
use Rattle.law_lists.proofs.Tests.{lt_tells, both_left}
use Rattle.law_lists.proofs.Finds.{find_tells}
use Rattle.ct_entry.specs.Listed.{Listed}
use Rattle.def_memory.specs.Granules.{plain}
use Rattle.law_areas.proofs.Writes.{all_length}
use Rattle.law_granules.proofs.Lists.{zeroed_length}
use Rattle.def_sched.specs.declared.Status.{Status}
use Rattle.def_sched.specs.declared.Status.TheVariants.{Ready, Sleeping, Waiting, Ended}
use Rattle.def_sched.specs.Statuses.{status_of, is_ready, after_tick}
use Rattle.def_sched.specs.Picks.{pick, is_foremost}
use Rattle.def_machine.specs.Image.{Image}
use Rattle.def_machine.specs.State.{State, Thread, Frame, Counts, register}
use Rattle.def_words.specs.declared.Trap.{Trap}
use Rattle.def_step.specs.Devices.{DeviceStates}
use Rattle.def_step.specs.Handlers.{record_words}
use Rattle.def_machine.specs.Platform.{MachineRow}
use Rattle.ct_entry.specs.declared.acts.Deed.{Deed}
use Rattle.ct_sched.specs.Sched.{SchedRow, with_statuses, after_pick}
use Rattle.ct_threads.specs.Steps.{IsHeapPlaced}
use Rattle.ct_threads.specs.Handling.{record_place}
use Rattle.ct_engine.specs.Seen as engine
use Rattle.ct_engine.specs.Seen.{area_at, resumed, with_running, EngineRow}
use Rattle.ct_engine.specs.Calls.{switched}
use Rattle.ct_engine.specs.Handling.{handler_begun}
use Rattle.ct_execute.specs.declared.ran.Ran.{Ran}
use Rattle.ct_execute.specs.declared.ran.Ran.TheVariants.{Went, Returned, Native, Trapped}
use Rattle.ct_execute.specs.Deciding.{IfUnfinished, Stays}
use Rattle.ct_services.specs.Serves.{RunsReady, StaysBeside}
use Rattle.ct_boot.specs.Placed.{ArePlaced}
use Rattle.ct_machine.specs.Parts.{state_by, IsKept, IsCounted}
use Rattle.ct_machine.specs.Going.{CameTo}

-- the machine that these parts make
abbrev pub machine_by : Image → EngineRow → SchedRow → DeviceStates → Bool → ℕ → Counts → MachineRow
machine_by i e r k pending time c = record { board = record { image = i; bases = k.bases }; state = state_by e r pending k.states time c }

pub two_more : (n : ℕ) → nat_lt 1 (suc (suc n)) ≡ true
two_more n = elim (lt_tells 1 (suc (suc n))) [ inl a ↦ a.0 | inr a ↦ absurd (let few = a.1 in omega (arith, few)) ]

pub none_runs : (e : EngineRow) (ss : List Status) → e.state.running ≡ None → RunsReady e ss
none_runs e ss none t runs = absurd (let clash : None ≡ Some t = sym none ∙ runs in cc)

-- an engine of the same places, and as many statuses
pub stays_kept : (i : Image) (e new : EngineRow) (r : SchedRow) (ss : List Status) → IsKept i e r → StaysBeside e new → length ss ≡ length r.statuses → RunsReady new ss → IsKept i new (with_statuses r ss)
stays_kept i e new r ss kept stays many ready =
    subst (λ (x : EngineRow). IsKept i x (with_statuses r ss)) (sym stays.same)
    (record {
      region = kept.region;
      placed = subst (λ (n : ℕ). IsHeapPlaced i.ram i.heap_base n) (sym stays.size) kept.placed;
      heap = record { base = kept.heap.base; end = kept.heap.end; limits = kept.heap.limits };
      quotas = kept.quotas;
      areas = subst (λ (n : ℕ). ArePlaced i (8 * n) e.areas) (sym stays.size) kept.areas;
      threads = kept.threads ∙ sym stays.threads;
      priorities = kept.priorities;
      statuses = many ∙ kept.statuses ∙ sym stays.threads;
      few = rw many kept.few;
      ready = ready;
    })

-- where its parts lie is as it was
abbrev pub StaysElse : EngineRow → EngineRow → Type 0
StaysElse e new = new ≡ record e { state = new.state }

pub same_kept : (i : Image) (e new : EngineRow) (r : SchedRow) → IsKept i e r → StaysElse e new → length new.state.granules ≡ length e.state.granules → length new.state.threads ≡ length e.state.threads
    → RunsReady new r.statuses → IsKept i new r
same_kept i e new r kept else_ size threads ready =
    stays_kept i e new r r.statuses kept (record { same = else_; size = size; threads = threads }) refl ready

-- where the same thread runs, or none
pub still_ready : (e new : EngineRow) (ss : List Status) → RunsReady e ss → new.state.running ≡ e.state.running → RunsReady new ss
still_ready e new ss ready is t runs = ready t (sym is ∙ runs)

-- a thread stops
pub stopped_so : (i : Image) (e new : EngineRow) (r : SchedRow) (c : Counts) (time : ℕ) → IsKept i e r × IsCounted c time e.state.next → new ≡ with_running e None → IsKept i new r × IsCounted c time new.state.next
stopped_so i e new r c time h is = rw is (same_kept i e (with_running e None) r h.0 refl refl refl (none_runs (with_running e None) r.statuses refl), h.1)

-- ---- and no object is made

pub counted_so : (c : Counts) (time : ℕ) (e e' x : EngineRow) → e' ≡ x → x.state.next ≡ e.state.next → IsCounted c time e.state.next → IsCounted c time e'.state.next
counted_so c time e e' x is same h = subst (λ (n : ℕ). IsCounted c time n) (sym (ap (λ (y : EngineRow). y.state.next) is ∙ same)) h

-- ---- an instruction

pub ran_kept : (i : Image) (e new : EngineRow) (r : SchedRow) → IsKept i e r → Stays e new → IsKept i new r
ran_kept i e new r kept stays =
    same_kept i e new r kept (subst (StaysElse e) (sym stays.beside) refl) stays.size stays.threads (still_ready e new r.statuses kept.ready (ap (λ (x : EngineRow). x.state.running) stays.beside))

-- ---- a frame ends

pub switched_kept : (i : Image) (e : EngineRow) (r : SchedRow) (t high : ℕ) (x : Thread) (run : Option ℕ) (ss : List Status) → IsKept i e r → length ss ≡ length r.statuses
    → RunsReady (switched e t high x run) ss → IsKept i (switched e t high x run) (with_statuses r ss)
switched_kept i e r t high x run ss kept many ready =
    stays_kept i e (switched e t high x run) r ss kept
    (record { same = refl; size = zeroed_length (area_at e t).stack high e.region.ram e.state.granules; threads = length-set e.state.threads t x }) many ready

-- a handler is entered
pub begun_kept : (i : Image) (e : EngineRow) (r : SchedRow) (entries : Listed) (t handler : ℕ) (why : Trap) (f : Frame) (fs : List Frame) → IsKept i e r → IsKept i (handler_begun e entries t handler why (f ∷ fs)) r
begun_kept i e r entries t handler why f fs kept =
    same_kept i e (handler_begun e entries t handler why (f ∷ fs)) r kept refl
    (all_length e.state.granules (record_place e.region.ram (register (engine.thread e t) 2)) (map plain (record_words (engine.thread e t) why))) (length-set e.state.threads t _) kept.ready

-- ---- of what is to be done, where something is

pub unfinished_map : (ran : Ran) (P Q : Type 0) → (P → Q) → IfUnfinished ran P → IfUnfinished ran Q
unfinished_map (Went acted) P Q f h = tt
unfinished_map Returned P Q f h = f h
unfinished_map (Native number) P Q f h = f h
unfinished_map (Trapped why) P Q f h = f h

-- ---- turns

ready_is : (s : Status) → is_ready s ≡ true → s ≡ Ready
ready_is Ready is = refl
ready_is (Sleeping n) is = absurd (let clash : false ≡ true = is in cc)
ready_is (Waiting a) is = absurd (let clash : false ≡ true = is in cc)
ready_is Ended is = absurd (let clash : false ≡ true = is in cc)

-- who is picked is ready
picked_ready : (r : SchedRow) (t : ℕ) → pick r.priorities r.statuses r.order ≡ Some t → status_of r.statuses t ≡ Ready
picked_ready r t is = ready_is (status_of r.statuses t) (both_left (is_ready (status_of r.statuses t)) _ (find_tells (is_foremost r.priorities r.statuses r.order) r.order t is).passes)

same_some : (t u : ℕ) → Some t ≡ Some u → t ≡ u
same_some t u is = cc

pub picked_kept : (i : Image) (e new : EngineRow) (r row : SchedRow) (t : ℕ) → IsKept i e r → Some t ≡ pick r.priorities r.statuses r.order → new ≡ resumed e t → row ≡ after_pick r (Some t) → IsKept i new row
picked_kept i e new r row t kept is now turn =
    let k = same_kept i e (resumed e t) r kept refl refl (length-set e.state.threads t _) (λ u runs. ap (λ n. status_of r.statuses n) (sym (same_some t u runs)) ∙ picked_ready r t (sym is)) in
    rw (now, turn)
    (record { region = k.region; placed = k.placed; heap = k.heap; quotas = k.quotas; areas = k.areas; threads = k.threads; priorities = k.priorities; statuses = k.statuses; few = k.few; ready = k.ready })

ticked_at : (ss : List Status) (t : ℕ) → status_of ss t ≡ Ready → status_of (map after_tick ss) t ≡ Ready
ticked_at [] t is = absurd (let clash : Ended ≡ Ready = is in cc)
ticked_at (s ∷ ss) zero is = ap after_tick is
ticked_at (s ∷ ss) (suc t) is = ticked_at ss t is

pub ticked_kept : (i : Image) (e : EngineRow) (r row : SchedRow) → IsKept i e r → row ≡ with_statuses r (map after_tick r.statuses) → IsKept i e row
ticked_kept i e r row kept turn =
    rw turn (stays_kept i e e r (map after_tick r.statuses) kept (record { same = refl; size = refl; threads = refl }) (length-map r.statuses after_tick) (λ t runs. ticked_at r.statuses t (kept.ready t runs)))

-- ---- what a thread came to, of another spelling of the same

pub came_by : {m whole n : MachineRow} {t : ℕ} {x y : Ran} (w : MachineRow → State × Option Deed) → m ≡ whole → y ≡ x → CameTo m n t x (w m) → CameTo whole n t y (w whole)
came_by {m = m} {n = n} {t = t} {y = y} w same ran h = subst (λ (k : MachineRow). CameTo k n t y (w k)) same (subst (λ (r : Ran). CameTo m n t r (w m)) (sym ran) h)
