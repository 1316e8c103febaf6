-- What each change of a state leaves anywhere comes of what stood there before.
use Rattle.std.proofs.Common.{ℕ, zero, suc, ◌≡◌, ◌+◌, ◌-◌, ◌*◌, ◌/◌, ◌&&◌, Bool, true, false, nat_le, nat_lt, List, [], ◌∷◌, map, slice_set, None, refl, subst, arith}
use Rattle.std.proofs.Math.ListN.{get_or}
use Rattle.law_lists.proofs.Tests.{chosen}
use Rattle.law_lists.proofs.Sets.{after_set}
use Rattle.law_lists.proofs.Maps.{at_map}
use Rattle.def_words.specs.declared.Cap.{Cap}
use Rattle.def_words.specs.declared.Trap.{Trap}
use Rattle.def_words.specs.declared.Posture.{Posture}
use Rattle.def_words.specs.Authority.{cap_base}
use Rattle.def_words.specs.Capability.{integer, untagged, with_address}
use Rattle.def_words.specs.Jumped.{opened}
use Rattle.law_words.proofs.Passing.{opened_is}
use Rattle.def_memory.specs.declared.Granule.{Granule}
use Rattle.def_memory.specs.Granules.{plain, nothing, granule_at}
use Rattle.def_memory.specs.Ranges.{zeroed_from}
use Rattle.law_granules.proofs.Lists.{zeroed_at}
use Rattle.def_sched.specs.declared.Status.{Status}
use Rattle.def_sched.specs.Statuses.{woken, woken_count}
use Rattle.def_machine.specs.Image.{Image, made_cap, code_entry, globals_entry, handler_entry, area_of, stack_base}
use Rattle.def_machine.specs.State.{State, Thread, Frame, Object, thread, register, granule, nobody}
use Rattle.def_machine.specs.Objects.{Each}
use Rattle.def_machine.specs.Memory.{filtered, is_marked_in}
use Rattle.def_machine.specs.Registers.{written}
use Rattle.def_machine.specs.Threads.{picked, timed, with_status, statuses_of, with_statuses, jumped}
use Rattle.def_machine.specs.Frames.{Given, argument, cap_passed, entered_by, answer, left_by, switched}
use Rattle.def_machine.specs.Heap.{sliced, sweep_over, with_slice, quarantined}
use Rattle.def_machine.specs.Slices.{kept_frames, kept_thread, marks_cleared, is_number}
use Rattle.def_reach.specs.Roots.{root_of, gate_for}
use Rattle.def_step.specs.declared.TheConstants.{TRAP_RECORD}
use Rattle.def_step.specs.Handlers.{record_end, record_words, words_written, handled, handler_entered}
use Rattle.def_step.specs.Instructions.{Effect, put_done}
use Rattle.def_step.specs.Quotas.{let_go}
use Rattle.def_step.specs.Routines.{answered, answers, threads_woken}
use Rattle.law_moves.proofs.Frees.{freed_cap}
use Rattle.law_routines.proofs.Leaving.{stopped}
use Rattle.law_moves.proofs.Slices.{granule_at_slice, register_at_slice, thread_sliced}
use Rattle.def_safety.specs.Everywhere.{FrameHas, ThreadHas, Everywhere}
use Rattle.law_moves.proofs.Results.{address_result}
use Rattle.def_events.specs.Passes.{Widens, Passes, PassesOn}
use Rattle.law_history.proofs.Values.{filtered_has}
use Rattle.law_routines.proofs.Events.{sixteen}

-- ---- what only stays, or loses its tag

module _ (S C : Cap → Type 0) (w : Widens S C) where
  pub zero_has : C (plain 0)
  zero_has = w.none (plain 0) refl

  pub nobody_has : ThreadHas C nobody
  nobody_has = record { pcc = zero_has; registers = λ n. zero_has; frames = tt }

  frame_has : (f : Frame) → FrameHas S f → FrameHas C f
  frame_has f h = record { c1 = w.stays f.c1 h.c1; c2 = w.stays f.c2 h.c2; c3 = w.stays f.c3 h.c3; c8 = w.stays f.c8 h.c8; c9 = w.stays f.c9 h.c9 }

  pub frames_have : (fs : List Frame) → Each (FrameHas S) fs → Each (FrameHas C) fs
  frames_have [] h = tt
  frames_have (f ∷ fs) h = (frame_has f h.0, frames_have fs h.1)

  pub thread_has : (t : Thread) → ThreadHas S t → ThreadHas C t
  thread_has t h = record { pcc = w.stays t.pcc h.pcc; registers = λ n. w.stays (register t n) (h.registers n); frames = frames_have t.frames h.frames }

  pub same_has : (s : State) → Everywhere S s → Everywhere C s
  same_has s h = record { granules = λ k. w.stays (granule s k).cap (h.granules k); threads = λ t. thread_has (thread s t) (h.threads t) }

  -- one thread changes
  set_has : (s : State) (t : ℕ) (new : Thread) → Everywhere S s → ThreadHas C new → (u : ℕ) → ThreadHas C (get_or (slice_set s.threads t new) u nobody)
  set_has s t new h has u = after_set (ThreadHas C) s.threads t u new nobody has (thread_has (thread s u) (h.threads u))

  zeroed_has : (i : Image) (s : State) (t high : ℕ) → Everywhere S s → (k : ℕ) → C (granule_at (zeroed_from (stack_base i t) high i.ram s.granules) k).cap
  zeroed_has i s t high h k = zeroed_at (stack_base i t) high i.ram s.granules k (λ g. C g.cap) (λ low below. zero_has) (λ outside. w.stays (granule s k).cap (h.granules k))

  pub over_has : (i : Image) (s : State) (t high : ℕ) → Everywhere S s → Everywhere C (switched i s t high nobody None)
  over_has i s t high h = record { granules = zeroed_has i s t high h; threads = set_has s t nobody h nobody_has }

  -- ---- a pick

  pub picked_has : (i : Image) (s : State) (t : ℕ) → Everywhere S s → (u : ℕ) → ThreadHas C (get_or (slice_set s.threads t (picked i s (thread s t))) u nobody)
  picked_has i s t h = set_has s t (picked i s (thread s t)) h (record {
    pcc = filtered_has S C w i s (thread s t).pcc (h.threads t).pcc;
    registers = λ n. at_map C (filtered i s) (thread s t).registers n (plain 0) zero_has (filtered_has S C w i s (register (thread s t) n) ((h.threads t).registers n));
    frames = frames_have (thread s t).frames (h.threads t).frames;
  })

  -- ---- a tick

  pub slept_has : (s : State) → Everywhere S s → (t : ℕ) → ThreadHas C (get_or (map timed s.threads) t nobody)
  slept_has s h t = at_map (ThreadHas C) timed s.threads t nobody nobody_has
      (let old = thread_has (thread s t) (h.threads t) in record { pcc = old.pcc; registers = old.registers; frames = old.frames })

  -- ---- a sweep

  slice_has : (i : Image) (s : State) (low high offset : ℕ) (c : Cap) → S c → C (sliced i s low high offset c)
  slice_has i s low high offset c h = chosen C (nat_le low offset && nat_lt offset high) (filtered i s c) c (λ is. filtered_has S C w i s c h) (λ not. w.stays c h)

  frames_sliced : (i : Image) (s : State) (low high area : ℕ) (fs : List Frame) → Each (FrameHas S) fs → Each (FrameHas C) (kept_frames (sliced i s low high) area fs)
  frames_sliced i s low high area [] h = tt
  frames_sliced i s low high area (f ∷ fs) h = (
    record {
      c1 = slice_has i s low high _ f.c1 h.0.c1;
      c2 = slice_has i s low high _ f.c2 h.0.c2;
      c3 = slice_has i s low high _ f.c3 h.0.c3;
      c8 = slice_has i s low high _ f.c8 h.0.c8;
      c9 = slice_has i s low high _ f.c9 h.0.c9;
    },
    frames_sliced i s low high area fs h.1,
  )

  sliced_has : (i : Image) (s : State) (low high area : ℕ) (runs : Bool) (t : Thread) → ThreadHas S t → ThreadHas C (kept_thread (sliced i s low high) area runs t)
  sliced_has i s low high area true t h = record { pcc = w.stays t.pcc h.pcc; registers = λ n. w.stays (register t n) (h.registers n); frames = frames_sliced i s low high area t.frames h.frames }
  sliced_has i s low high area false t h = record {
    pcc = slice_has i s low high area t.pcc h.pcc;
    registers = λ n. register_at_slice C i s low high area t.registers n zero_has (slice_has i s low high (area + 8 * n) (register t n) (h.registers n));
    frames = frames_sliced i s low high area t.frames h.frames;
  }

  pub with_slice_has : (i : Image) (s : State) (low high : ℕ) → Everywhere S s → Everywhere C (with_slice i s low high)
  with_slice_has i s low high h = record {
    granules = λ k. granule_at_slice (λ (g : Granule). C g.cap) i s low high 0 s.granules k zero_has (slice_has i s low high (0 + 8 * k) (granule s k).cap (h.granules k));
    threads = λ t. thread_sliced (λ n x y. ThreadHas C y) i s low high t (λ n. nobody_has) (sliced_has i s low high (area_of i t - i.ram) (is_number s.running t) (thread s t) (h.threads t));
  }

  unmarked_has : (i : Image) (rows : List Object) (x : ℕ) (gs : List Granule) (k : ℕ) → S (get_or gs k nothing).cap → C (get_or (marks_cleared rows x gs) k nothing).cap
  unmarked_has i rows x [] k h = w.stays _ h
  unmarked_has i rows x (g ∷ gs) zero h = w.stays g.cap h
  unmarked_has i rows x (g ∷ gs) (suc k) h = unmarked_has i rows (x + 8) gs k h

  pub sweep_over_has : (i : Image) (s : State) → Everywhere S s → Everywhere C (sweep_over i s)
  sweep_over_has i s h = record { granules = λ k. unmarked_has i s.objects i.ram s.granules k (h.granules k); threads = λ t. thread_has (thread s t) (h.threads t) }

  -- ---- an answer

  written_has : (rs : List Cap) (to : ℕ) (c : Cap) (n : ℕ) → ((m : ℕ) → C (get_or rs m (plain 0))) → C c → C (get_or (written rs to c) n (plain 0))
  written_has rs zero c n h has = h n
  written_has rs (suc to) c n h has = after_set C rs (suc to) n c (plain 0) has (h n)

  -- what passes to a callee, and what an ending frame hands back
  argument_has : (i : Image) (s : State) (t export n : ℕ) → ThreadHas S (thread s t) → C (argument i (thread s t) export n)
  argument_has i s t export n h = chosen C (nat_lt n (gate_for i.entries.gates export).args) (cap_passed i export (register (thread s t) (10 + n))) (plain 0)
      (λ is. chosen C (root_of i.entries export).passes (register (thread s t) (10 + n)) (untagged (register (thread s t) (10 + n))) (λ is. w.stays _ (h.registers (10 + n))) (λ not. w.none _ refl))
      (λ not. zero_has)

  pub answer_has : (i : Image) (s : State) (t : ℕ) (f : Frame) (n : ℕ) → ThreadHas S (thread s t) → C (answer i (thread s t) f n)
  answer_has i s t f n h = chosen C (root_of i.entries f.export).passes (register (thread s t) n) (untagged (register (thread s t) n)) (λ is. w.stays _ (h.registers n)) (λ not. w.none _ refl)

  -- a free: the object reads as zero, and the running thread's registers pass the load filter
  pub filtered_thread : (i : Image) (s : State) (t : ℕ) (r : Object) → ThreadHas S (thread s t) → ThreadHas C (record (thread s t) { registers = map (filtered i (quarantined i s r)) (thread s t).registers })
  filtered_thread i s t r h = record {
    pcc = w.stays (thread s t).pcc h.pcc;
    registers = λ n. at_map C (filtered i (quarantined i s r)) (thread s t).registers n (plain 0) zero_has (filtered_has S C w i (quarantined i s r) (register (thread s t) n) (h.registers n));
    frames = frames_have (thread s t).frames h.frames;
  }

  pub let_go_has : (i : Image) (s : State) (t : ℕ) (r : Object) → Everywhere S s → Everywhere C (let_go i s t r)
  let_go_has i s t r h = record {
    granules = λ k. freed_cap C i s r k (λ low high. zero_has) (λ outside. w.stays (granule s k).cap (h.granules k));
    threads = set_has s t (record (thread s t) { registers = map (filtered i (quarantined i s r)) (thread s t).registers }) h (filtered_thread i s t r (h.threads t));
  }

-- ---- what opens, is made, or is a result

module _ (i : Image) (S R K : Cap → Type 0) (L : Cap → Posture → Type 0) (C : Cap → Type 0) (x : Passes i S R K L C) where
  opened_has : (c : Cap) → K c → C (opened c)
  opened_has c h = x.opened c (opened c) (λ tagged. opened_is c tagged) h

  -- opened, where it passed the load filter before
  reopened_has : (s : State) (c : Cap) → K c → C (opened (filtered i s c))
  reopened_has s c h = chosen (λ (z : Cap). C (opened z)) (c.tag && is_marked_in i.ram s.granules (cap_base c)) (untagged c) c (λ is. x.widens.none (opened (untagged c)) refl) (λ not. opened_has c h)

  -- ---- returns and unwinds

  pub left_thread : (s : State) (t : ℕ) (f g : Frame) (gs : List Frame) (first second : Cap) → ThreadHas S (thread s t) → K f.c1 → (thread s t).frames ≡ f ∷ g ∷ gs → C first → C second → ThreadHas C (left_by i s (thread s t) f (g ∷ gs) first second)
  left_thread s t f g gs first second h back frames one two =
      let all : Each (FrameHas S) (f ∷ g ∷ gs) = subst (Each (FrameHas S)) frames h.frames in
      let zero_ : C (plain 0) = zero_has S C x.widens in
      record {
        pcc = reopened_has s f.c1 back;
        registers = sixteen C _ _ _ _ _ _ _ _ _ _ _ _ _ _ _ _ zero_ zero_ (filtered_has S C x.widens i s f.c2 all.0.c2) (filtered_has S C x.widens i s f.c3 all.0.c3) zero_ zero_ zero_ zero_
            (filtered_has S C x.widens i s f.c8 all.0.c8) (filtered_has S C x.widens i s f.c9 all.0.c9) one two zero_ zero_ zero_ zero_ zero_;
        frames = frames_have S C x.widens (g ∷ gs) all.1;
      }

  back_has : (s : State) (t : ℕ) (f g : Frame) (gs : List Frame) (first second : Cap) → Everywhere S s → K f.c1 → (thread s t).frames ≡ f ∷ g ∷ gs → C first → C second
      → Everywhere C (switched i s t f.top (left_by i s (thread s t) f (g ∷ gs) first second) s.running)
  back_has s t f g gs first second h back frames one two = record {
    granules = zeroed_has S C x.widens i s t f.top h;
    threads = set_has S C x.widens s t (left_by i s (thread s t) f (g ∷ gs) first second) h (left_thread s t f g gs first second (h.threads t) back frames one two);
  }

  pub returned_back : (s : State) (t : ℕ) (f g : Frame) (gs : List Frame) → Everywhere S s → K f.c1 → (thread s t).frames ≡ f ∷ g ∷ gs
      → Everywhere C (switched i s t f.top (left_by i s (thread s t) f (g ∷ gs) (answer i (thread s t) f 10) (answer i (thread s t) f 11)) s.running)
  returned_back s t f g gs h back e = back_has s t f g gs (answer i (thread s t) f 10) (answer i (thread s t) f 11) h back e (answer_has S C x.widens i s t f 10 (h.threads t)) (answer_has S C x.widens i s t f 11 (h.threads t))

  pub ended_back : (s : State) (t value : ℕ) (f g : Frame) (gs : List Frame) → Everywhere S s → K f.c1 → (thread s t).frames ≡ f ∷ g ∷ gs
      → Everywhere C (switched i s t f.top (left_by i s (thread s t) f (g ∷ gs) (plain value) (plain 0)) s.running)
  ended_back s t value f g gs h back e = back_has s t f g gs (plain value) (plain 0) h back e (x.widens.none (plain value) refl) (zero_has S C x.widens)

  -- ---- an error handler

  words_have : (gs : List Granule) (k : ℕ) (ws : List ℕ) → ((j : ℕ) → C (granule_at gs j).cap) → (j : ℕ) → C (granule_at (words_written gs k ws) j).cap
  words_have gs k [] h = h
  words_have gs k (v ∷ vs) h = words_have (slice_set gs k (record { cap = plain v; mark = (granule_at gs k).mark })) (k + 1) vs
      (λ j. after_set (λ (g : Granule). C g.cap) gs k j (record { cap = plain v; mark = (granule_at gs k).mark }) nothing (x.widens.none (plain v) refl) (h j))

  pub handled_thread : (s : State) (t : ℕ) (why : Trap) (f : Frame) (fs : List Frame) → (thread s t).frames ≡ f ∷ fs
      → C (with_address (made_cap i (code_entry i f.actor)) (gate_for i.entries.gates (handler_entry i f.actor)).code) → C (made_cap i 0) → C (made_cap i (globals_entry i f.actor))
      → ThreadHas S (thread s t) → R (register (thread s t) 2) → ThreadHas C (handled i (thread s t) why f fs)
  handled_thread s t why f fs frames pcc sentry globals h second =
      let all : Each (FrameHas S) (f ∷ fs) = subst (Each (FrameHas S)) frames h.frames in
      let saved : FrameHas C f = frame_has S C x.widens f all.0 in
      let zero_ : C (plain 0) = zero_has S C x.widens in
      record {
        pcc = pcc;
        registers = sixteen C _ _ _ _ _ _ _ _ _ _ _ _ _ _ _ _ zero_ sentry
            (x.result (register (thread s t) 2) (with_address (register (thread s t) 2) (record_end (register (thread s t) 2) - TRAP_RECORD)) (address_result (register (thread s t) 2) (record_end (register (thread s t) 2) - TRAP_RECORD) (omega arith)) second)
            globals zero_ zero_ zero_ zero_ zero_ zero_ (x.widens.none _ refl) (x.widens.none _ refl) (x.widens.none _ refl) zero_ zero_ zero_ zero_;
        frames = (record { c1 = saved.c1; c2 = saved.c2; c3 = saved.c3; c8 = saved.c8; c9 = saved.c9 }, frames_have S C x.widens fs all.1);
      }

  pub handler_has : (s : State) (t : ℕ) (why : Trap) (f : Frame) (fs : List Frame) → (thread s t).frames ≡ f ∷ fs
      → C (with_address (made_cap i (code_entry i f.actor)) (gate_for i.entries.gates (handler_entry i f.actor)).code) → C (made_cap i 0) → C (made_cap i (globals_entry i f.actor))
      → Everywhere S s → R (register (thread s t) 2) → Everywhere C (handler_entered i s t why f fs)
  handler_has s t why f fs frames pcc sentry globals h second = record {
    granules = words_have s.granules ((record_end (register (thread s t) 2) - TRAP_RECORD - i.ram) / 8) (record_words (thread s t) why) (λ j. x.widens.stays (granule s j).cap (h.granules j));
    threads = set_has S C x.widens s t (handled i (thread s t) why f fs) h (handled_thread s t why f fs frames pcc sentry globals (h.threads t) second);
  }

  -- ---- an instruction

  pub jumped_thread : (s : State) (t : ℕ) (d : Effect) → ThreadHas S (thread s t) → C d.value → C d.pcc → ThreadHas C (jumped (thread s t) d.pcc d.posture d.to d.value)
  jumped_thread s t d h value pcc = record {
    pcc = pcc;
    registers = λ n. written_has S C x.widens (thread s t).registers d.to d.value n (λ m. x.widens.stays (register (thread s t) m) (h.registers m)) value;
    frames = frames_have S C x.widens (thread s t).frames h.frames;
  }

  pub put_has : (s : State) (t : ℕ) (d : Effect) → Everywhere S s → C d.value → C d.pcc → ((k : ℕ) → C (granule_at d.granules k).cap) → Everywhere C (put_done s t d)
  put_has s t d h value pcc granules = record {
    granules = granules;
    threads = set_has S C x.widens s t (jumped (thread s t) d.pcc d.posture d.to d.value) h (jumped_thread s t d (h.threads t) value pcc);
  }

  -- ---- a routine

  pub answered_thread : (s : State) (t : ℕ) (v : Cap) → ThreadHas S (thread s t) → K (register (thread s t) 1) → C v → ThreadHas C (answered (thread s t) v)
  answered_thread s t v h back value = record {
    pcc = opened_has (register (thread s t) 1) back;
    registers = λ n. written_has S C x.widens (written (thread s t).registers 10 v) 11 (plain 0) n
        (λ m. written_has S C x.widens (thread s t).registers 10 v m (λ j. x.widens.stays (register (thread s t) j) (h.registers j)) value)
        (zero_has S C x.widens);
    frames = frames_have S C x.widens (thread s t).frames h.frames;
  }

  pub answers_led : (s : State) (t : ℕ) (v : Cap) → Everywhere S s → K (register (thread s t) 1) → C v → Everywhere C (answers s t v)
  answers_led s t v h back value = record { granules = λ k. x.widens.stays (granule s k).cap (h.granules k); threads = set_has S C x.widens s t (answered (thread s t) v) h (answered_thread s t v (h.threads t) back value) }

  pub stops_has : (s : State) (t : ℕ) (status : Status) → Everywhere S s → K (register (thread s t) 1) → Everywhere C (stopped s t status)
  stops_has s t status h back =
      let new = answered_thread s t (integer 0) (h.threads t) back (x.widens.none (integer 0) refl) in
      record {
        granules = λ k. x.widens.stays (granule s k).cap (h.granules k);
        threads = set_has S C x.widens s t (with_status (answered (thread s t) (integer 0)) status) h (record { pcc = new.pcc; registers = new.registers; frames = new.frames });
      }

  pub status_thread : (ts : List Thread) (ss : List Status) (t : ℕ) → ThreadHas C (get_or ts t nobody) → ThreadHas C (get_or (with_statuses ts ss) t nobody)
  status_thread [] ss t h = h
  status_thread (y ∷ ys) [] t h = h
  status_thread (y ∷ ys) (z ∷ zs) zero h = record { pcc = h.pcc; registers = h.registers; frames = h.frames }
  status_thread (y ∷ ys) (z ∷ zs) (suc t) h = status_thread ys zs t h

  pub wakes_has : (s : State) (t address most : ℕ) → Everywhere S s → K (register (thread s t) 1) → Everywhere C (threads_woken s t address most)
  wakes_has s t address most h back =
      let told = answers_led s t (integer (woken_count address most (statuses_of s.threads))) h back (x.widens.none (integer (woken_count address most (statuses_of s.threads))) refl) in
      record {
        granules = told.granules;
        threads = λ u. status_thread (answers s t (integer (woken_count address most (statuses_of s.threads)))).threads (woken address most (statuses_of s.threads)) u (told.threads u);
      }

  pub entered_thread : (s : State) (t callee export high : ℕ) (g : Given) → C g.pcc → C g.back → C g.stack → C g.globals → ThreadHas S (thread s t) → ThreadHas C (entered_by i.entries (thread s t) callee export high g)
  entered_thread s t callee export high g pcc sentry stack globals h =
      let zero_ : C (plain 0) = zero_has S C x.widens in
      record {
        pcc = pcc;
        registers = sixteen C _ _ _ _ _ _ _ _ _ _ _ _ _ _ _ _ zero_ sentry stack globals zero_ zero_ zero_ zero_ zero_ zero_ (argument_has S C x.widens i s t export 0 h) (argument_has S C x.widens i s t export 1 h) (argument_has S C x.widens i s t export 2 h)
            (argument_has S C x.widens i s t export 3 h) (argument_has S C x.widens i s t export 4 h) (argument_has S C x.widens i s t export 5 h) zero_;
        frames = (
          record {
            c1 = x.widens.stays _ (h.registers 1);
            c2 = x.widens.stays _ (h.registers 2);
            c3 = x.widens.stays _ (h.registers 3);
            c8 = x.widens.stays _ (h.registers 8);
            c9 = x.widens.stays _ (h.registers 9);
          },
          frames_have S C x.widens (thread s t).frames h.frames,
        );
      }

  pub enters_has : (s : State) (t callee export high : ℕ) (g : Given) → C g.pcc → C g.back → C g.stack → C g.globals → Everywhere S s
      → Everywhere C (switched i s t high (entered_by i.entries (thread s t) callee export high g) s.running)
  enters_has s t callee export high g pcc sentry stack globals h = record {
    granules = zeroed_has S C x.widens i s t high h;
    threads = set_has S C x.widens s t (entered_by i.entries (thread s t) callee export high g) h (entered_thread s t callee export high g pcc sentry stack globals (h.threads t));
  }

-- an answer, where one predicate is all that is asked
pub answers_has : (i : Image) (S C : Cap → Type 0) → PassesOn i S C → (s : State) (t : ℕ) (v : Cap) → Everywhere S s → C v → Everywhere C (answers s t v)
answers_has i S C x s t v h value = answers_led i S S S (λ c before. S c) C x s t v h ((h.threads t).registers 1) value
