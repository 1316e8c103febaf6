-- How an event changes which frames are handling, and which event makes one handle.
use Rattle.std.proofs.Common.{ℕ, zero, suc, ◌≡◌, ◌+◌, ◌==◌, ◌&&◌, ◌⊎◌, inl, inr, Bool, true, false, not, nat_le, List, [], ◌∷◌, length, map, slice_set, Option, Some, None, Result, Ok, Err, refl, sym, ap, ◌∙◌, subst, option_map, arith}
use Rattle.std.proofs.Math.ListN.{get_or}
use Rattle.std.proofs.lemmas.Bool.{and_parts, not-true}
use Rattle.law_lists.proofs.Tests.{chosen}
use Rattle.ct_entry.specs.declared.acts.Act.TheVariants as acts
use Rattle.ct_entry.specs.declared.acts.Deed.{Deed}
use Rattle.def_profile.specs.declared.answers.TheConstants.{UNWOUND}
use Rattle.def_profile.specs.declared.traps.TheConstants.{ILLEGAL_INSTRUCTION}
use Rattle.def_words.specs.declared.Cap.{Cap}
use Rattle.def_words.specs.declared.Trap.{Trap}
use Rattle.def_words.specs.Authority.{cap_address}
use Rattle.def_words.specs.Traps.{plain_trap}
use Rattle.def_words.specs.Capability.{integer}
use Rattle.def_sched.specs.declared.Status.{Status}
use Rattle.def_sched.specs.Picks.{pick}
use Rattle.def_sched.specs.Statuses.{woken, woken_count}
use Rattle.def_machine.specs.Image.{Image, stack_base, handler_entry}
use Rattle.def_machine.specs.State.{State, Thread, Frame, thread, register, nobody}
use Rattle.def_machine.specs.Objects.{has_quarantined, painted}
use Rattle.def_machine.specs.Threads.{picked, timed, statuses_of, with_statuses}
use Rattle.def_machine.specs.Frames.{returned, ended_with, unwound}
use Rattle.def_machine.specs.Heap.{sliced, area_offset, sweep_over, ram_size, ended_sweep, sweep_on, sweep_began, with_slice, slice_end}
use Rattle.def_machine.specs.Slices.{kept_frames, kept_thread, kept_threads, is_number}
use Rattle.def_machine.specs.Platform.{Platform}
use Rattle.def_step.specs.declared.Event.{Event}
use Rattle.def_step.specs.declared.Event.TheVariants.{Step, Tick, Sweep, Input}
use Rattle.def_step.specs.declared.Next.{Next}
use Rattle.def_step.specs.Checks.{first_failed}
use Rattle.def_step.specs.Handlers.{has_room, is_handled, handled, handler_entered, handler_value, return_taken}
use Rattle.def_step.specs.Instructions.{Effect, deed, deed_told, space_of, put_done, instruction_end, operand, trapped, goes_on, after_fetch, executed, fetch_checks, next_at, served}
use Rattle.def_step.specs.Native.{native}
use Rattle.def_step.specs.Operands.{operands_of}
use Rattle.def_step.specs.Quotas.{let_go}
use Rattle.def_step.specs.Routines.{Ran, Traps, Leaves, answers}
use Rattle.def_step.specs.Events.{preempted_from, preempted, picked_as, picked_from, continued, one_more_step, stepped, ticked, interrupted, swept_on}
use Rattle.def_events.specs.Leaving.{Left, IfRan}
use Rattle.law_routines.proofs.Cases.{by_next}
use Rattle.law_routines.proofs.Leaving.{Moves, routines_left}
use Rattle.law_routines.proofs.Stepping.{IfDone, carried, trap_case, return_case}
use Rattle.def_safety.specs.Each.{ready}
use Rattle.def_safety.specs.Handling.{OneLess, OneHandles, handling_of, handling, HandlingGoes}
use Rattle.def_events.specs.Entering.{EntersFresh, TrapEnters, HandlesByTraps, HandlesOnce}

-- ---- one thread changes

-- no frame comes to be handling: all stay, one more frame stands before them, or the innermost went
abbrev NoneHandles : List Bool → List Bool → Type 0
NoneHandles old new = (new ≡ old) ⊎ ((new ≡ false ∷ old) ⊎ OneLess old new)

goes : (old new : List Bool) → NoneHandles old new → HandlingGoes old new
goes old new h = elim h [
  | inl same ↦ inl same
  | inr other ↦ elim other [
    | inl more ↦ inr (inl more)
    | inr less ↦ inr (inr (inl less))
  ]
]

-- one frame more that handles among as many is none of these
none_handles : (old new : List Bool) → NoneHandles old new → OneHandles old new → ⊥
none_handles old new h one = elim h [
  | inl same ↦ (let clash : false ∷ one.below ≡ true ∷ one.below = sym one.was ∙ sym same ∙ one.is in let heads : false ≡ true = cc in absurd (let no : false ≡ true = heads in cc))
  | inr other ↦ elim other [
    | inl more ↦ (let clash : false ∷ old ≡ true ∷ one.below = sym more ∙ one.is in absurd (let no : false ≡ true = cc in cc))
    | inr less ↦ (let long = ap (λ (ms : List Bool). length ms) (sym less.is ∙ one.was) in let short = ap (λ (ms : List Bool). length ms) one.is in absurd (omega (arith, long, short)))
  ]
]

stays : (ms : List Bool) → NoneHandles ms ms
stays ms = inl refl

set_go : (ts : List Thread) (u t : ℕ) (new : Thread) → NoneHandles (handling_of (get_or ts u nobody).frames) (handling_of new.frames)
    → NoneHandles (handling_of (get_or ts t nobody).frames) (handling_of (get_or (slice_set ts u new) t nobody).frames)
set_go [] u t new h = stays (handling_of nobody.frames)
set_go (x ∷ xs) zero zero new h = h
set_go (x ∷ xs) zero (suc t) new h = stays (handling_of (get_or xs t nobody).frames)
set_go (x ∷ xs) (suc u) zero new h = stays (handling_of x.frames)
set_go (x ∷ xs) (suc u) (suc t) new h = set_go xs u t new h

set_same : (ts : List Thread) (u t : ℕ) (new : Thread) → new.frames ≡ (get_or ts u nobody).frames
    → handling_of (get_or (slice_set ts u new) t nobody).frames ≡ handling_of (get_or ts t nobody).frames
set_same [] u t new h = refl
set_same (x ∷ xs) zero zero new h = ap handling_of h
set_same (x ∷ xs) zero (suc t) new h = refl
set_same (x ∷ xs) (suc u) zero new h = refl
set_same (x ∷ xs) (suc u) (suc t) new h = set_same xs u t new h

-- it is that thread, and has its new frames, or nothing of it changes
set_other : (ts : List Thread) (u t : ℕ) (new : Thread)
    → ((t ≡ u) × ((get_or (slice_set ts u new) u nobody).frames ≡ new.frames)) ⊎ (handling_of (get_or (slice_set ts u new) t nobody).frames ≡ handling_of (get_or ts t nobody).frames)
set_other [] u t new = inr refl
set_other (x ∷ xs) zero zero new = inl (refl, refl)
set_other (x ∷ xs) zero (suc t) new = inr refl
set_other (x ∷ xs) (suc u) zero new = inr refl
set_other (x ∷ xs) (suc u) (suc t) new = elim (set_other xs u t new) [
  | inl is ↦ inl (ap (λ n. suc n) is.0, is.1)
  | inr not ↦ inr not
]

statuses_same : (ts : List Thread) (ss : List Status) (t : ℕ) → handling_of (get_or (with_statuses ts ss) t nobody).frames ≡ handling_of (get_or ts t nobody).frames
statuses_same [] ss t = refl
statuses_same (x ∷ xs) [] t = refl
statuses_same (x ∷ xs) (y ∷ ys) zero = refl
statuses_same (x ∷ xs) (y ∷ ys) (suc t) = statuses_same xs ys t

-- of no thread a frame comes to be handling
abbrev Go : State → State → Type 0
Go s z = (t : ℕ) → NoneHandles (handling s t) (handling z t)

-- every thread's handling are as they were
abbrev AsBefore : State → State → Type 0
AsBefore s z = (t : ℕ) → handling z t ≡ handling s t

-- ---- a step

ended_go : (s : State) (i : Image) (t value : ℕ) (fs : List Frame) → (thread s t).frames ≡ fs → Go s (ended_with i s t value fs)
ended_go s i t value [] frames u = stays (handling s u)
ended_go s i t value (f ∷ []) frames u = set_go s.threads t u nobody (inr (inr (record { gone = f.handling; is = ap handling_of frames })))
ended_go s i t value (f ∷ g ∷ gs) frames u = set_go s.threads t u _ (inr (inr (record { gone = f.handling; is = ap handling_of frames })))

returned_go : (s : State) (i : Image) (t : ℕ) (fs : List Frame) → (thread s t).frames ≡ fs → Go s (returned i s t fs)
returned_go s i t [] frames u = stays (handling s u)
returned_go s i t (f ∷ []) frames u = set_go s.threads t u nobody (inr (inr (record { gone = f.handling; is = ap handling_of frames })))
returned_go s i t (f ∷ g ∷ gs) frames u = set_go s.threads t u _ (inr (inr (record { gone = f.handling; is = ap handling_of frames })))

kept_go : (s : State) (t : ℕ) (new : Thread) → new.frames ≡ (thread s t).frames → (u : ℕ) → NoneHandles (handling s u) (handling_of (get_or (slice_set s.threads t new) u nobody).frames)
kept_go s t new h u = inl (set_same s.threads t u new h)

moves_go : (i : Image) (s : State) (t : ℕ) → Moves (λ z told. Go s z) i s t
moves_go i s t = record {
  tells = λ n u. kept_go s t _ refl u;
  enters = λ high u. set_go s.threads t u _ (inr (inl refl));
  stops = λ status u. kept_go s t _ refl u;
  wakes = λ address most u. inl (statuses_same (answers s t (integer (woken_count address most (statuses_of s.threads)))).threads (woken address most (statuses_of s.threads)) u ∙ set_same s.threads t u _ refl);
  hands = λ size r is u. kept_go s t _ refl u;
  gives = λ r c is u. inl (set_same (let_go i s t r).threads t u _ refl ∙ set_same s.threads t u _ refl);
  seals = λ size key r is k u. kept_go s t _ refl u;
  opens = λ key r is u. kept_go s t _ refl u;
}

done_go : (s : State) (t : ℕ) (r : Result Effect Trap) → IfDone (Go s) s t r
done_go s t (Err why) = tt
done_go s t (Ok d) = λ u. kept_go s t _ refl u

-- ---- a handler that is entered

fresh : (i : Image) (s : State) (t : ℕ) (f : Frame) → is_handled i (stack_base i t) (thread s t) f ≡ true → f.handling ≡ false
fresh i s t f is =
    let both = and_parts (not (handler_entry i f.actor == 0) && not f.handling) (has_room (stack_base i t) f.top (register (thread s t) 2)) is in
    let inner = and_parts (not (handler_entry i f.actor == 0)) (not f.handling) both.0 in
    not-true f.handling inner.1

-- a state and the deed that is told with it: frames stay as they handle, and one comes to by a trap alone that enters
-- it
record Goes (b : Platform) (s : State) (told : Option Deed) (z : State) (u : ℕ) : Type 0 where
  once : HandlingGoes (handling s u) (handling z u)
  by_trap : OneHandles (handling s u) (handling z u) → TrapEnters b s told u

abbrev AllGo : Platform → State → State × Option Deed → Type 0
AllGo b s r = (u : ℕ) → Goes b s r.1 r.0 u

-- where none comes to be handling
quiet_goes : (b : Platform) (s z : State) (o : Option Deed) → Go s z → AllGo b s (z, o)
quiet_goes b s z o h u = record { once = goes (handling s u) (handling z u) (h u); by_trap = λ one. absurd (none_handles (handling s u) (handling z u) (h u) one) }

same_goes : (b : Platform) (s z : State) (o : Option Deed) (u : ℕ) → handling z u ≡ handling s u → Goes b s o z u
same_goes b s z o u same = record { once = inl same; by_trap = λ one. absurd (none_handles (handling s u) (handling z u) (inl same) one) }

-- a handler is entered by the trap of this thread that is told
handles_goes : (b : Platform) (s : State) (t : ℕ) (why : Trap) (f : Frame) (fs : List Frame) → (thread s t).frames ≡ f ∷ fs → is_handled b.image (stack_base b.image t) (thread s t) f ≡ true
    → AllGo b s (handler_entered b.image s t why f fs, Some (deed s t 0 (acts.Trap why.cause why.code why.register)))
handles_goes b s t why f fs frames is u = elim (set_other s.threads t u (handled b.image (thread s t) why f fs)) [
  | inl own ↦ subst (λ n. Goes b s (Some (deed s t 0 (acts.Trap why.cause why.code why.register))) (handler_entered b.image s t why f fs) n) (sym own.0) (record {
    once = inr (inr (inr (record {
      below = handling_of fs;
      was = ap handling_of frames ∙ ap (λ m. m ∷ handling_of fs) (fresh b.image s t f is);
      is = ap handling_of own.1;
    })));
    by_trap = λ one. record {
      deed = deed s t 0 (acts.Trap why.cause why.code why.register);
      told_is = refl;
      thread_is = refl;
      cause = why.cause;
      code = why.code;
      register = why.register;
      act_is = refl;
      frame = f;
      below = fs;
      frames_are = frames;
      enters = is;
    };
  })
  | inr same ↦ same_goes b s (handler_entered b.image s t why f fs) (Some (deed s t 0 (acts.Trap why.cause why.code why.register))) u same
]

trapped_goes : (b : Platform) (s : State) (t : ℕ) (why : Trap) → AllGo b s (trapped b s t why)
trapped_goes b s t why = trap_case (λ z. AllGo b s (z, Some (deed s t 0 (acts.Trap why.cause why.code why.register)))) b.image s t why (thread s t).frames
    (λ f fs frames is. handles_goes b s t why f fs frames is)
    (quiet_goes b s (unwound b.image s t (thread s t).frames) (Some (deed s t 0 (acts.Trap why.cause why.code why.register))) (ended_go s b.image t UNWOUND (thread s t).frames refl))

-- ---- what a step carries out

ends_goes : (b : Platform) (s : State) (t : ℕ) (x : Cap) (r : Result Effect Trap) → AllGo b s (instruction_end b s t x r)
ends_goes b s t x (Err why) = trapped_goes b s t why
ends_goes b s t x (Ok d) = quiet_goes b s (put_done s t d) (option_map (deed s t x.shadow.root) d.act) (done_go s t (Ok d))

served_goes : (b : Platform) (s : State) (t : ℕ) (o : Option Ran) → IfRan (Left (λ z told. Go s z)) o → AllGo b s (served b s t o)
served_goes b s t None h = trapped_goes b s t (plain_trap ILLEGAL_INSTRUCTION)
served_goes b s t (Some (Traps why)) h = trapped_goes b s t why
served_goes b s t (Some (Leaves after told)) h = quiet_goes b s after (option_map (deed_told s t) told) h

next_goes : (b : Platform) (s : State) (t : ℕ) → AllGo b s (goes_on b s t (next_at (space_of b s) (cap_address (thread s t).pcc)))
next_goes b s t = by_next (λ (n : Next). AllGo b s (goes_on b s t n)) (space_of b s) (cap_address (thread s t).pcc)
    (quiet_goes b s (return_taken b.image s t (thread s t).frames) None
    (return_case (Go s) b.image s t (thread s t).frames (λ f fs frames is. ended_go s b.image t (handler_value (thread s t)) (thread s t).frames refl) (λ unmarked. returned_go s b.image t (thread s t).frames refl)))
    (λ k away read. ends_goes b s t (operand s t (operands_of k).first) (carried b s t k))
    (λ n few other. served_goes b s t (native b.image s t n) (routines_left (λ z told. Go s z) b.image s t n few other (moves_go b.image s t)))
    (trapped_goes b s t (plain_trap ILLEGAL_INSTRUCTION))

executed_goes : (b : Platform) (s : State) (t : ℕ) → AllGo b s (executed b s t)
unfolding executed
executed_goes b s t = by (first_failed (fetch_checks (thread s t).pcc))
  where
    by : (o : Option Trap) → AllGo b s (after_fetch b s t o)
    by (Some why) = trapped_goes b s t why
    by None = next_goes b s t

preempted_before : (s : State) (o : Option ℕ) → AsBefore s (preempted_from s o)
preempted_before s None = λ u. refl
preempted_before s (Some t) = chosen (AsBefore s) (s.pending && not (thread s t).posture.off) (record s { running = None; pending = false }) s (λ is u. refl) (λ not u. refl)

picked_before : (b : Platform) (s : State) (o : Option ℕ) → AsBefore s (picked_as b s o)
picked_before b s None = λ u. refl
picked_before b s (Some t) = λ u. set_same s.threads t u (picked b.image s (thread s t)) refl

scheduled_before : (b : Platform) (s : State) (o : Option ℕ) → AsBefore s (picked_from b s o)
scheduled_before b s (Some t) = λ u. refl
scheduled_before b s None = picked_before b s (pick b.image.priorities (statuses_of s.threads) s.picks)

continued_goes : (b : Platform) (s : State) (o : Option ℕ) → AllGo b s (continued b s o)
continued_goes b s None = quiet_goes b s s None (λ u. stays (handling s u))
continued_goes b s (Some t) = let after = executed_goes b s t in λ u. record { once = (after u).once; by_trap = (after u).by_trap }

-- the state in which the thread carries on has the handling of that before
ready_before : (b : Platform) (s : State) → AsBefore s (ready b s)
ready_before b s u = scheduled_before b (preempted (one_more_step s)) (preempted (one_more_step s)).running u ∙ preempted_before (one_more_step s) s.running u

stepped_goes : (b : Platform) (s : State) (u : ℕ) → HandlingGoes (handling s u) (handling (stepped b s).0 u) × (OneHandles (handling s u) (handling (stepped b s).0 u) → TrapEnters b (ready b s) (stepped b s).1 u)
stepped_goes b s u =
    let goes = continued_goes b (ready b s) (ready b s).running u in
    subst (λ (ms : List Bool). HandlingGoes ms (handling (stepped b s).0 u) × (OneHandles ms (handling (stepped b s).0 u) → TrapEnters b (ready b s) (stepped b s).1 u)) (ready_before b s u) (goes.once, goes.by_trap)

-- ---- a tick and a sweep

timed_before : (ts : List Thread) (u : ℕ) → handling_of (get_or (map timed ts) u nobody).frames ≡ handling_of (get_or ts u nobody).frames
timed_before [] u = refl
timed_before (x ∷ xs) zero = refl
timed_before (x ∷ xs) (suc u) = timed_before xs u

interrupted_before : (s : State) (o : Option ℕ) → AsBefore s (interrupted s o)
interrupted_before s None = λ u. refl
interrupted_before s (Some t) = chosen (AsBefore s) (thread s t).posture.off (record s { pending = true }) (record s { running = None }) (λ is u. refl) (λ not u. refl)

frames_before : (keep : ℕ → Cap → Cap) (area : ℕ) (fs : List Frame) → handling_of (kept_frames keep area fs) ≡ handling_of fs
frames_before keep area [] = refl
frames_before keep area (f ∷ fs) = ap (λ ms. f.handling ∷ ms) (frames_before keep area fs)

thread_before : (keep : ℕ → Cap → Cap) (area : ℕ) (runs : Bool) (x : Thread) → handling_of (kept_thread keep area runs x).frames ≡ handling_of x.frames
thread_before keep area true x = frames_before keep area x.frames
thread_before keep area false x = frames_before keep area x.frames

sliced_before : (keep : ℕ → Cap → Cap) (area : ℕ → ℕ) (running : Option ℕ) (n : ℕ) (ts : List Thread) (u : ℕ) → handling_of (get_or (kept_threads keep area running n ts) u nobody).frames ≡ handling_of (get_or ts u nobody).frames
sliced_before keep area running n [] u = refl
sliced_before keep area running n (x ∷ xs) zero = thread_before keep (area n) (is_number running n) x
sliced_before keep area running n (x ∷ xs) (suc u) = sliced_before keep area running (n + 1) xs u

ended_before : (i : Image) (s z : State) (front : ℕ) → AsBefore s z → AsBefore s (ended_sweep i z front)
ended_before i s z front h = chosen (AsBefore s) (nat_le (ram_size z) front) (sweep_over i z) z (λ is u. h u) (λ not u. h u)

began_before : (s : State) (o : Option ℕ) → AsBefore s (sweep_began s o)
began_before s None = chosen (AsBefore s) (has_quarantined s.objects) (record s { objects = painted s.objects; front = Some 0 }) s (λ is u. refl) (λ not u. refl)
began_before s (Some front) = λ u. refl

swept_before : (i : Image) (s : State) (o : Option ℕ) → AsBefore s (sweep_on i s o)
swept_before i s None = λ u. refl
swept_before i s (Some front) = ended_before i s (with_slice i s front (slice_end i s front)) (slice_end i s front) (λ u. sliced_before (sliced i s front (slice_end i s front)) (area_offset i) s.running 0 s.threads u)

-- ---- whole

-- an event that is no step changes none
quiet_before : (b : Platform) (s : State) → AsBefore s (ticked s) × AsBefore s (swept_on b s)
quiet_before b s = (
  λ t. interrupted_before (record s { threads = map timed s.threads; time = s.time + 1; counts = record s.counts { ticks = s.counts.ticks + 1 } }) s.running t ∙ timed_before s.threads t,
  λ t. (let began = began_before (record s { counts = record s.counts { sweeps = s.counts.sweeps + 1 } }) s.front t in
      swept_before b.image (sweep_began (record s { counts = record s.counts { sweeps = s.counts.sweeps + 1 } }) s.front) (sweep_began (record s { counts = record s.counts { sweeps = s.counts.sweeps + 1 } }) s.front).front t ∙ began),
)

-- whatever happens, the handling of a thread's frames stay, go with their frame, or the innermost one is set
pub handling_goes : (b : Platform) (s : State) (e : Event) → HandlesOnce b s e
handling_goes b s Step t = (stepped_goes b s t).0
handling_goes b s Tick t = inl ((quiet_before b s).0 t)
handling_goes b s Sweep t = inl ((quiet_before b s).1 t)
handling_goes b s (Input n byte) t = inl refl

-- a frame comes to be handling only where a trap of its thread is told that enters its compartment's error handler
pub handles_by : (b : Platform) (s : State) (e : Event) → HandlesByTraps b s e
handles_by b s Step t one = (stepped_goes b s t).1 one
handles_by b s Tick t one = absurd (none_handles (handling s t) (handling (ticked s) t) (inl ((quiet_before b s).0 t)) one)
handles_by b s Sweep t one = absurd (none_handles (handling s t) (handling (swept_on b s) t) (inl ((quiet_before b s).1 t)) one)
handles_by b s (Input n byte) t one = absurd (none_handles (handling s t) (handling s t) (inl refl) one)

pub enters_fresh : (b : Platform) (s : State) (e : Event) → EntersFresh b s e
enters_fresh b s e = λ d cause code register f fs told act frames enters. fresh b.image (ready b s) d.thread f enters
