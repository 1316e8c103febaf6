-- What an event changes of a thread that doesn't carry on.
use Rattle.std.proofs.Common.{ℕ, zero, suc, ◌≡◌, ◌+◌, ◌-◌, ◌⊎◌, inl, inr, Bool, true, false, nat_le, List, [], ◌∷◌, length, map, Option, Some, None, refl, sym, ap, ◌∙◌, subst}
use Rattle.std.proofs.Math.ListN.{get_or}
use Rattle.law_lists.proofs.Sets.{after_set_split}
use Rattle.law_lists.proofs.Tests.{chosen}
use Rattle.def_profile.specs.Areas.{frame_after}
use Rattle.def_sched.specs.Picks.{pick}
use Rattle.def_words.specs.declared.Cap.{Cap}
use Rattle.def_memory.specs.Granules.{plain}
use Rattle.def_machine.specs.Platform.{Platform}
use Rattle.def_machine.specs.Image.{area_of}
use Rattle.def_machine.specs.Objects.{has_quarantined, painted}
use Rattle.def_machine.specs.Slices.{kept_frames, kept_registers, kept_thread, is_number}
use Rattle.def_machine.specs.State.{State, Thread, Frame, nobody, thread, register}
use Rattle.def_machine.specs.Threads.{picked, timed, statuses_of}
use Rattle.def_machine.specs.Heap.{sliced, with_slice, slice_end, sweep_over, ram_size, sweep_began, sweep_on, swept as sweeps}
use Rattle.def_confined.specs.Keeps.{Keeps}
use Rattle.def_confined.specs.Partitioned.{Partitioned}
use Rattle.def_step.specs.declared.Event.{Event}
use Rattle.def_step.specs.declared.Event.TheVariants.{Step, Tick, Sweep, Input}
use Rattle.def_step.specs.Events.{preempted, picked_as, picked_from, continued, one_more_step, interrupted, happens}
use Rattle.def_safety.specs.Each.{ready}
use Rattle.def_integrity.specs.Touched.{IsFiltered}
use Rattle.def_integrity.specs.Threads.{FramesFaded, ThreadFaded, KeepsRegisters, ThreadTouched, as_before, by_own_step, by_wake, by_tick, by_sweep, ThreadsKept}
use Rattle.law_moves.proofs.Slices.{thread_sliced, is_itself}
use Rattle.law_moves.proofs.Ticks.{timed_at}
use Rattle.law_events.proofs.Events.{ready_keeps}
use Rattle.law_history.proofs.Reaching.{uses_reach}
use Rattle.law_integrity.proofs.Threads.{Self, same, own, of_wake, executed_threads}
use Rattle.law_integrity.proofs.Frames.{stopped_threads, own_frames}
use Rattle.law_integrity.proofs.Sweeps.{slice_says, slice_zero}

-- ---- before a step

-- a thread that isn't picked is as it was
pub ready_thread : (b : Platform) (s : State) (u : ℕ) → (thread (ready b s) u ≡ thread s u) ⊎ ((ready b s).running ≡ Some u)
ready_thread b s u = elim (at_pick (preempted (one_more_step s)) (preempted (one_more_step s)).running) [
  | inl left ↦ inl (left ∙ ap (λ ts. get_or ts u nobody) (stopped_threads (one_more_step s) (one_more_step s).running))
  | inr runs ↦ inr runs
]
  where
    at_choice : (z : State) (o : Option ℕ) → (thread (picked_as b z o) u ≡ thread z u) ⊎ ((picked_as b z o).running ≡ Some u)
    at_choice z None = inl refl
    at_choice z (Some t) = after_set_split (λ (x : Thread). (x ≡ thread z u) ⊎ (Some t ≡ Some u)) z.threads t u (picked b.image z (thread z t)) nobody (λ is. inr (ap (λ n. Some n) is)) (λ is none. inr (ap (λ n. Some n) is)) (λ other. inl refl)

    at_pick : (z : State) (o : Option ℕ) → (thread (picked_from b z o) u ≡ thread z u) ⊎ ((picked_from b z o).running ≡ Some u)
    at_pick z None = at_choice z (pick b.image.priorities (statuses_of z.threads) z.picks)
    at_pick z (Some t) = inl refl

-- ---- a step

-- what the step of the ready state's thread leaves of a thread
step_self : (b : Platform) (s : State) (t u : ℕ) (x : Thread) → (ready b s).running ≡ Some t → thread (happens b s Step).0 u ≡ x → Self b (ready b s) t u x → ThreadTouched b s Step u
step_self b s t u x runs is (same e) = elim (ready_thread b s u) [
  | inl stays ↦ as_before (is ∙ e ∙ stays)
  | inr acts ↦ by_own_step refl acts (own_frames b s Step u refl acts)
]
step_self b s t u x runs is (own mine) = (let acts : (ready b s).running ≡ Some u = runs ∙ ap (λ n. Some n) mine in by_own_step refl acts (own_frames b s Step u refl acts))
step_self b s t u x runs is (of_wake h) = by_wake refl (record { by = h.by; authority = h.authority; checks = h.checks; loads = h.loads; waits = h.waits; new_is = is ∙ h.new_is })

step_touched : (b : Platform) (s : State) (u : ℕ) → Partitioned b.image → Keeps b.image s → (o : Option ℕ) → (ready b s).running ≡ o → thread (happens b s Step).0 u ≡ thread (continued b (ready b s) o).0 u → ThreadTouched b s Step u
step_touched b s u parts k None runs is = elim (ready_thread b s u) [
  | inl stays ↦ as_before (is ∙ stays)
  | inr acts ↦ by_own_step refl acts (own_frames b s Step u refl acts)
]
step_touched b s u parts k (Some t) runs is =
    step_self b s t u _ runs is
    (executed_threads b (ready b s) t (ready_keeps b s parts k).confined runs (λ f fs frames passes. (uses_reach b s parts k).word t f fs runs frames passes) u)

-- ---- a tick

interrupted_threads : (s : State) (o : Option ℕ) → (interrupted s o).threads ≡ s.threads
interrupted_threads s None = refl
interrupted_threads s (Some t) = chosen (λ (z : State). z.threads ≡ s.threads) (thread s t).posture.off (record s { pending = true }) (record s { running = None }) (λ is. refl) (λ not. refl)

-- ---- a sweep

same_frames : (b : Platform) (s : State) (fs : List Frame) → FramesFaded (IsFiltered b s) fs fs
same_frames b s [] = tt
same_frames b s (f ∷ fs) = (record { actor = refl; export = refl; same_top = refl; handling = refl; c1 = inl refl; c2 = inl refl; c3 = inl refl; c8 = inl refl; c9 = inl refl }, same_frames b s fs)

-- what a sweep leaves of thread u
abbrev SweptThread : Platform → State → ℕ → Thread → Thread → Type 0
SweptThread b s u x y = ThreadFaded (IsFiltered b s) x y × KeepsRegisters s u x y

same_thread : (b : Platform) (s : State) (u : ℕ) (x : Thread) → SweptThread b s u x x
same_thread b s u x = (record { pcc = inl refl; registers = λ n. inl refl; frames = same_frames b s x.frames; status = refl; posture = refl }, λ runs. (refl, refl))

sliced_frames : (b : Platform) (s : State) (low high area : ℕ) (fs : List Frame) → FramesFaded (IsFiltered b s) fs (kept_frames (sliced b.image s low high) area fs)
sliced_frames b s low high area [] = tt
sliced_frames b s low high area (f ∷ fs) = (
  record {
    actor = refl;
    export = refl;
    same_top = refl;
    handling = refl;
    c1 = slice_says b.image s.granules low high (frame_after area (length fs)) f.c1;
    c2 = slice_says b.image s.granules low high (frame_after area (length fs) + 8) f.c2;
    c3 = slice_says b.image s.granules low high (frame_after area (length fs) + 16) f.c3;
    c8 = slice_says b.image s.granules low high (frame_after area (length fs) + 24) f.c8;
    c9 = slice_says b.image s.granules low high (frame_after area (length fs) + 32) f.c9;
  },
  sliced_frames b s low high area fs,
)

kept_register : (keep : ℕ → Cap → Cap) → ((n : ℕ) → keep n (plain 0) ≡ plain 0) → (at : ℕ) (rs : List Cap) (n : ℕ) → (m : ℕ) × (get_or (kept_registers keep at rs) n (plain 0) ≡ keep m (get_or rs n (plain 0)))
kept_register keep none at [] n = (0, sym (none 0))
kept_register keep none at (r ∷ rs) zero = (at, refl)
kept_register keep none at (r ∷ rs) (suc n) = kept_register keep none (at + 8) rs n

-- of a running thread its frames alone, of another all of it
sliced_thread : (b : Platform) (s : State) (low high area u : ℕ) (runs : Bool) (x : Thread) → is_number s.running u ≡ runs → SweptThread b s u x (kept_thread (sliced b.image s low high) area runs x)
sliced_thread b s low high area u true x is = (record { pcc = inl refl; registers = λ n. inl refl; frames = sliced_frames b s low high area x.frames; status = refl; posture = refl }, λ runs. (refl, refl))
sliced_thread b s low high area u false x is = (
  record {
    pcc = slice_says b.image s.granules low high area x.pcc;
    registers = λ n.
        let at = kept_register (sliced b.image s low high) (slice_zero b.image.ram s.granules low high) area x.registers n in
        subst (IsFiltered b s (register x n)) (sym at.1) (slice_says b.image s.granules low high at.0 (register x n));
    frames = sliced_frames b s low high area x.frames;
    status = refl;
    posture = refl;
  },
  λ runs. absurd (let clash : true ≡ false = sym (ap (λ o. is_number o u) runs ∙ is_itself u) ∙ is in cc),
)

on_thread : (b : Platform) (s : State) (o : Option ℕ) (u : ℕ) → SweptThread b s u (thread s u) (thread (sweep_on b.image s o) u)
on_thread b s None u = same_thread b s u (thread s u)
on_thread b s (Some front) u =
    let passed : SweptThread b s u (thread s u) (thread (with_slice b.image s front (slice_end b.image s front)) u) =
    thread_sliced (λ n x y. SweptThread b s u x y) b.image s front (slice_end b.image s front) u (λ n. same_thread b s u nobody) (sliced_thread b s front (slice_end b.image s front) (area_of b.image u - b.image.ram) u (is_number s.running u) (thread s u) refl) in
    chosen (λ (z : State). SweptThread b s u (thread s u) (thread z u)) (nat_le (ram_size (with_slice b.image s front (slice_end b.image s front))) (slice_end b.image s front)) (sweep_over b.image (with_slice b.image s front (slice_end b.image s front))) (with_slice b.image s front (slice_end b.image s front)) (λ is. passed) (λ not. passed)

sweep_threads : (b : Platform) (s : State) (u : ℕ) → SweptThread b s u (thread s u) (thread (sweeps b.image s) u)
sweep_threads b s u = by s.front
  where
    by : (o : Option ℕ) → SweptThread b s u (thread s u) (thread (sweep_on b.image (sweep_began s o) (sweep_began s o).front) u)
    by (Some front) = on_thread b s s.front u
    by None = chosen (λ (z : State). SweptThread b s u (thread s u) (thread (sweep_on b.image z z.front) u)) (has_quarantined s.objects) (record s { objects = painted s.objects; front = Some 0 }) s
        (λ is. (let h = on_thread b (record s { objects = painted s.objects; front = Some 0 }) (Some 0) u in (h.0, h.1)))
        (λ not. on_thread b s s.front u)

-- ---- an event

pub threads_kept : (b : Platform) (s : State) (e : Event) → Partitioned b.image → Keeps b.image s → ThreadsKept b s e
threads_kept b s Step parts k u = step_touched b s u parts k (ready b s).running refl refl
threads_kept b s Tick parts k u = by_tick refl
    (ap (λ ts. get_or ts u nobody) (interrupted_threads (record s { threads = map timed s.threads; time = s.time + 1; counts = record s.counts { ticks = s.counts.ticks + 1 } }) s.running) ∙ timed_at s.threads u)
threads_kept b s Sweep parts k u = (let h = sweep_threads b (record s { counts = record s.counts { sweeps = s.counts.sweeps + 1 } }) u in by_sweep refl h.0 h.1)
threads_kept b s (Input n byte) parts k u = as_before refl
