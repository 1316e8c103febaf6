-- Every event settles what it makes.
use Rattle.std.proofs.Common.{ℕ, zero, suc, ◌≡◌, ◌+◌, ◌-◌, ◌*◌, ◌/◌, ◌&&◌, Bool, true, false, not, nat_le, nat_lt, List, [], ◌∷◌, map, slice_set, Option, Some, None, Result, Ok, Err, refl, subst}
use Rattle.std.proofs.Math.ListN.{get_or}
use Rattle.law_lists.proofs.Tests.{chosen}
use Rattle.law_lists.proofs.Sets.{after_set}
use Rattle.def_words.specs.declared.Cap.{Cap}
use Rattle.def_words.specs.declared.Trap.{Trap}
use Rattle.def_words.specs.Capability.{IsSettled, integer, untagged, word_sealed}
use Rattle.def_memory.specs.declared.Granule.{Granule}
use Rattle.def_memory.specs.Granules.{plain, nothing, granule_at}
use Rattle.def_memory.specs.Ranges.{zeroed_from}
use Rattle.law_granules.proofs.Lists.{zeroed_at, plain_settled}
use Rattle.def_instr.specs.declared.Instr.{Instr}
use Rattle.def_sched.specs.declared.Status.{Status}
use Rattle.def_sched.specs.Picks.{pick}
use Rattle.def_sched.specs.Statuses.{woken, woken_count}
use Rattle.def_machine.specs.Image.{Image, root, made_cap, code_entry, globals_entry, handler_entry, area_of, stack_base}
use Rattle.def_machine.specs.State.{State, Thread, Frame, Object, thread, register, granule, nobody}
use Rattle.def_machine.specs.Objects.{Each, has_quarantined, painted}
use Rattle.def_machine.specs.Memory.{filtered}
use Rattle.def_machine.specs.Registers.{written}
use Rattle.def_machine.specs.Threads.{picked, timed, with_status, statuses_of, with_statuses, jumped}
use Rattle.def_machine.specs.Frames.{answer, argument, cap_passed, callee_start, entered, left_by, returned, ended_with, switched}
use Rattle.def_machine.specs.Heap.{sliced, sweep_over, ram_size, ended_sweep, sweep_on, sweep_began, with_slice, slice_end, with_object, object_cap, quarantined}
use Rattle.def_machine.specs.Slices.{kept_frames, kept_thread, marks_cleared, is_number}
use Rattle.def_reach.specs.Roots.{root_of, gate_for, compartment_of}
use Rattle.def_step.specs.declared.Class.{Class}
use Rattle.def_step.specs.declared.Class.TheVariants as class
use Rattle.def_step.specs.declared.Event.{Event}
use Rattle.def_step.specs.declared.Event.TheVariants.{Step, Tick, Sweep, Input}
use Rattle.def_confined.specs.Facts.{MadeSettled}
use Rattle.def_step.specs.Routines.{answered, answers, threads_woken}
use Rattle.def_step.specs.Switch.{called}
use Rattle.def_step.specs.Quotas.{let_go}
use Rattle.def_step.specs.Tokens.{with_row, sealed_token, opened_token}
use Rattle.law_moves.proofs.Frees.{freed_cap}
use Rattle.law_routines.proofs.Leaving.{Moves, stopped, entering}
use Rattle.law_routines.proofs.Stepping as steps
use Rattle.def_step.specs.declared.TheConstants.{TRAP_RECORD}
use Rattle.def_step.specs.Handlers.{record_end, record_words, words_written, handled, handler_entered}
use Rattle.def_step.specs.Accesses.{Accessed}
use Rattle.def_step.specs.Jumps.{Flowed}
use Rattle.def_step.specs.Operands.{operands_of, class_of}
use Rattle.def_step.specs.Instructions.{Effect, carried_out, named_by, gives, flows, accesses, around, space_of, put_done, operand, executed}
use Rattle.def_machine.specs.Platform.{Platform}
use Rattle.def_step.specs.Events.{preempted_from, preempted, picked_as, picked_from, scheduled, continued, one_more_step, stepped, interrupted, happens, run}
use Rattle.law_words.proofs.Making.{settled}
use Rattle.law_words.proofs.Away.{address_settles, opens_settles, derives_settle}
use Rattle.law_lists.proofs.Maps.{at_map}
use Rattle.law_moves.proofs.Slices.{granule_at_slice, register_at_slice, thread_sliced}
use Rattle.def_confined.specs.Settled.{FrameSettled, ThreadSettled, Settled}
use Rattle.law_routines.proofs.Values.{filtered_settled, result_settled, IfFlows, flow_settled, IfAccesses, accessed_settled}

-- ---- changes of a state

pub nobody_settled : ThreadSettled nobody
nobody_settled = record { pcc = plain_settled 0; registers = λ n. plain_settled 0; frames = tt }

-- one thread changes, and RAM
set_settled : (s : State) (t : ℕ) (new : Thread) → Settled s → ThreadSettled new → (u : ℕ) → ThreadSettled (get_or (slice_set s.threads t new) u nobody)
set_settled s t new h settled u = after_set ThreadSettled s.threads t u new nobody settled (h.threads u)

-- ---- returns and unwinds

zeroed_settled : (i : Image) (s : State) (t high : ℕ) → Settled s → (k : ℕ) → IsSettled (granule_at (zeroed_from (stack_base i t) high i.ram s.granules) k).cap
zeroed_settled i s t high h k = zeroed_at (stack_base i t) high i.ram s.granules k (λ g. IsSettled g.cap) (λ low below. plain_settled 0) (λ outside. h.granules k)

over_settled : (i : Image) (s : State) (t high : ℕ) → Settled s → Settled (switched i s t high nobody None)
over_settled i s t high h = record { granules = zeroed_settled i s t high h; threads = set_settled s t nobody h nobody_settled }

pub sixteen : (P : Cap → Type 0) (c0 c1 c2 c3 c4 c5 c6 c7 c8 c9 c10 c11 c12 c13 c14 c15 : Cap) → P c0 → P c1 → P c2 → P c3 → P c4 → P c5 → P c6 → P c7 → P c8 → P c9 → P c10 → P c11 → P c12 → P c13 → P c14 → P c15 → P (plain 0) → (n : ℕ)
    → P (get_or (c0 ∷ c1 ∷ c2 ∷ c3 ∷ c4 ∷ c5 ∷ c6 ∷ c7 ∷ c8 ∷ c9 ∷ c10 ∷ c11 ∷ c12 ∷ c13 ∷ c14 ∷ c15 ∷ []) n (plain 0))
sixteen P c0 c1 c2 c3 c4 c5 c6 c7 c8 c9 c10 c11 c12 c13 c14 c15 p0 p1 p2 p3 p4 p5 p6 p7 p8 p9 p10 p11 p12 p13 p14 p15 past n = each_get (c0 ∷ c1 ∷ c2 ∷ c3 ∷ c4 ∷ c5 ∷ c6 ∷ c7 ∷ c8 ∷ c9 ∷ c10 ∷ c11 ∷ c12 ∷ c13 ∷ c14 ∷ c15 ∷ []) n (p0, (p1, (p2, (p3, (p4, (p5, (p6, (p7, (p8, (p9, (p10, (p11, (p12, (p13, (p14, (p15, tt))))))))))))))))
  where
    each_get : (cs : List Cap) (n : ℕ) → Each P cs → P (get_or cs n (plain 0))
    each_get [] n each = past
    each_get (c ∷ cs) zero each = each.0
    each_get (c ∷ cs) (suc n) each = each_get cs n each.1

back_settled : (i : Image) (s : State) (t : ℕ) (f g : Frame) (gs : List Frame) (first second : Cap) → Settled s → (thread s t).frames ≡ f ∷ g ∷ gs → IsSettled first → IsSettled second
    → Settled (switched i s t f.top (left_by i s (thread s t) f (g ∷ gs) first second) s.running)
back_settled i s t f g gs first second h frames one two =
    let all : Each FrameSettled (f ∷ g ∷ gs) = subst (Each FrameSettled) frames (h.threads t).frames in
    let zero_ : IsSettled (plain 0) = plain_settled 0 in
    record {
      granules = zeroed_settled i s t f.top h;
      threads = set_settled s t (left_by i s (thread s t) f (g ∷ gs) first second) h (record {
        pcc = opens_settles (filtered i s f.c1);
        registers = sixteen IsSettled _ _ _ _ _ _ _ _ _ _ _ _ _ _ _ _ zero_ zero_ (filtered_settled i s f.c2 all.0.c2) (filtered_settled i s f.c3 all.0.c3) zero_ zero_ zero_ zero_ (filtered_settled i s f.c8 all.0.c8) (filtered_settled i s f.c9 all.0.c9) one two zero_ zero_ zero_ zero_ zero_;
        frames = all.1;
      });
    }

answer_settled : (i : Image) (s : State) (t : ℕ) (f : Frame) (n : ℕ) → Settled s → IsSettled (answer i (thread s t) f n)
answer_settled i s t f n h = chosen IsSettled (root_of i.entries f.export).passes (register (thread s t) n) (untagged (register (thread s t) n)) (λ is. (h.threads t).registers n) (λ not e. refl)

returned_settled : (i : Image) (s : State) (t : ℕ) (fs : List Frame) → (thread s t).frames ≡ fs → Settled s → Settled (returned i s t fs)
returned_settled i s t [] e h = h
returned_settled i s t (f ∷ []) e h = over_settled i s t f.top h
returned_settled i s t (f ∷ g ∷ gs) e h = back_settled i s t f g gs (answer i (thread s t) f 10) (answer i (thread s t) f 11) h e (answer_settled i s t f 10 h) (answer_settled i s t f 11 h)

value_settled : (i : Image) (s : State) (t value : ℕ) (fs : List Frame) → (thread s t).frames ≡ fs → Settled s → Settled (ended_with i s t value fs)
value_settled i s t value [] e h = h
value_settled i s t value (f ∷ []) e h = over_settled i s t f.top h
value_settled i s t value (f ∷ g ∷ gs) e h = back_settled i s t f g gs (plain value) (plain 0) h e (plain_settled value) (plain_settled 0)

-- ---- an error handler

words_settled : (gs : List Granule) (k : ℕ) (ws : List ℕ) → ((j : ℕ) → IsSettled (granule_at gs j).cap) → (j : ℕ) → IsSettled (granule_at (words_written gs k ws) j).cap
words_settled gs k [] h = h
words_settled gs k (w ∷ ws) h = words_settled (slice_set gs k (record { cap = plain w; mark = (granule_at gs k).mark })) (k + 1) ws
    (λ j. after_set (λ (g : Granule). IsSettled g.cap) gs k j (record { cap = plain w; mark = (granule_at gs k).mark }) nothing (plain_settled w) (h j))

handler_settled : (i : Image) (s : State) (t : ℕ) (why : Trap) (f : Frame) (fs : List Frame) → MadeSettled i → (thread s t).frames ≡ f ∷ fs → Settled s → Settled (handler_entered i s t why f fs)
handler_settled i s t why f fs made frames h =
    let all : Each FrameSettled (f ∷ fs) = subst (Each FrameSettled) frames (h.threads t).frames in
    let zero_ : IsSettled (plain 0) = plain_settled 0 in
    record {
      granules = words_settled s.granules ((record_end (register (thread s t) 2) - TRAP_RECORD - i.ram) / 8) (record_words (thread s t) why) h.granules;
      threads = set_settled s t (handled i (thread s t) why f fs) h (record {
        pcc = address_settles (made_cap i (code_entry i f.actor)) (gate_for i.entries.gates (handler_entry i f.actor)).code;
        registers = sixteen IsSettled _ _ _ _ _ _ _ _ _ _ _ _ _ _ _ _ zero_ (made 0) (address_settles (register (thread s t) 2) (record_end (register (thread s t) 2) - TRAP_RECORD)) (made (globals_entry i f.actor)) zero_ zero_ zero_ zero_ zero_ zero_
            (λ e. refl) (λ e. refl) (λ e. refl) zero_ zero_ zero_ zero_;
        frames = (record { c1 = all.0.c1; c2 = all.0.c2; c3 = all.0.c3; c8 = all.0.c8; c9 = all.0.c9 }, all.1);
      });
    }

-- ---- an instruction

pub record DoneSettled (d : Effect) : Type 0 where
  pub value : IsSettled d.value
  pub pcc : IsSettled d.pcc
  pub granules : (k : ℕ) → IsSettled (granule_at d.granules k).cap

abbrev pub IfDone : Result Effect Trap → Type 0
IfDone (Err w) = Unit {0}
IfDone (Ok d) = DoneSettled d

written_settled : (rs : List Cap) (to : ℕ) (c : Cap) (n : ℕ) → ((m : ℕ) → IsSettled (get_or rs m (plain 0))) → IsSettled c → IsSettled (get_or (written rs to c) n (plain 0))
written_settled rs zero c n h settled = h n
written_settled rs (suc to) c n h settled = after_set IsSettled rs (suc to) n c (plain 0) settled (h n)

put_settled : (s : State) (t : ℕ) (d : Effect) → Settled s → DoneSettled d → Settled (put_done s t d)
put_settled s t d h done = record {
  granules = done.granules;
  threads = set_settled s t (jumped (thread s t) d.pcc d.posture d.to d.value) h (record {
    pcc = done.pcc;
    registers = λ n. written_settled (thread s t).registers d.to d.value n (h.threads t).registers done.value;
    frames = (h.threads t).frames;
  });
}

done_settled : (s : State) (t : ℕ) (r : Result Effect Trap) → Settled s → IfDone r → steps.IfDone Settled s t r
done_settled s t (Err why) h done = tt
done_settled s t (Ok d) h done = put_settled s t d h done

gives_settled : (b : Platform) (s : State) (t to : ℕ) (value : Cap) → Settled s → IsSettled value → IfDone (Ok (gives (around b s t) to value))
gives_settled b s t to value h settled = record { value = settled; pcc = address_settles (thread s t).pcc _; granules = h.granules }

flows_settled : (b : Platform) (s : State) (t to : ℕ) (r : Result Flowed Trap) → Settled s → IfFlows r → IfDone (flows (around b s t) to r)
flows_settled b s t to (Err w) h f = tt
flows_settled b s t to (Ok j) h f = record { value = f.link; pcc = f.pcc; granules = h.granules }

accesses_settled : (b : Platform) (s : State) (t to : ℕ) (r : Result Accessed Trap) → IfAccesses r → IfDone (accesses (around b s t) to r)
accesses_settled b s t to (Err w) f = tt
accesses_settled b s t to (Ok m) f = record { value = f.value; pcc = address_settles (thread s t).pcc _; granules = f.granules }

class_settled : (b : Platform) (s : State) (t : ℕ) (c : Class) (k : Instr) (to m n : ℕ) → Settled s → IfDone (carried_out c k to (operand s t m) (operand s t n) (named_by b.image (operand s t m)) (around b s t))
class_settled b s t class.Integer k to m n h = gives_settled b s t to _ h (λ e. refl)
class_settled b s t class.Capability k to m n h = gives_settled b s t to _ h (result_settled k (operand s t m) (operand s t n) (thread s t).pcc ((h.threads t).registers m))
class_settled b s t class.System k to m n h = tt
class_settled b s t class.Jump k to m n h = flows_settled b s t to _ h (flow_settled k (operand s t m) (operand s t n) (thread s t).pcc (thread s t).posture (named_by b.image (operand s t m)))
class_settled b s t class.Access k to m n h = accesses_settled b s t to _ (accessed_settled k (operand s t m) (operand s t n) (space_of b s) ((h.threads t).registers n) h.granules)
class_settled b s t class.Fence k to m n h = gives_settled b s t 0 (plain 0) h (λ e. refl)
class_settled b s t class.Call k to m n h = tt
class_settled b s t class.Break k to m n h = tt

-- ---- a routine

answered_settled : (s : State) (t : ℕ) (v : Cap) → Settled s → IsSettled v → ThreadSettled (answered (thread s t) v)
answered_settled s t v h settled = record {
  pcc = opens_settles (register (thread s t) 1);
  registers = λ n. written_settled (written (thread s t).registers 10 v) 11 (plain 0) n (λ m. written_settled (thread s t).registers 10 v m (h.threads t).registers settled) (plain_settled 0);
  frames = (h.threads t).frames;
}

answers_settled : (s : State) (t : ℕ) (v : Cap) → Settled s → IsSettled v → Settled (answers s t v)
answers_settled s t v h settled = record { granules = h.granules; threads = set_settled s t (answered (thread s t) v) h (answered_settled s t v h settled) }

stops_settled : (s : State) (t : ℕ) (status : Status) → Settled s → Settled (stopped s t status)
stops_settled s t status h =
    let new = answered_settled s t (integer 0) h (λ e. refl) in
    record {
      granules = h.granules;
      threads = set_settled s t (with_status (answered (thread s t) (integer 0)) status) h (record { pcc = new.pcc; registers = new.registers; frames = new.frames });
    }

given_settled : (ts : List Thread) (ss : List Status) → ((t : ℕ) → ThreadSettled (get_or ts t nobody)) → (t : ℕ) → ThreadSettled (get_or (with_statuses ts ss) t nobody)
given_settled [] ss h t = h t
given_settled (x ∷ xs) [] h t = h t
given_settled (x ∷ xs) (y ∷ ys) h zero = let old = h zero in record { pcc = old.pcc; registers = old.registers; frames = old.frames }
given_settled (x ∷ xs) (y ∷ ys) h (suc t) = given_settled xs ys (λ n. h (suc n)) t

wakes_settled : (s : State) (t address most : ℕ) → Settled s → Settled (threads_woken s t address most)
wakes_settled s t address most h =
    let told = answers_settled s t (integer (woken_count address most (statuses_of s.threads))) h (λ e. refl) in
    record {
      granules = told.granules;
      threads = given_settled (answers s t (integer (woken_count address most (statuses_of s.threads)))).threads (woken address most (statuses_of s.threads)) told.threads;
    }

-- what passes to a callee
passed_settled : (i : Image) (s : State) (t export n : ℕ) → Settled s → IsSettled (argument i (thread s t) export n)
passed_settled i s t export n h = chosen IsSettled (nat_lt n (gate_for i.entries.gates export).args) (cap_passed i export (register (thread s t) (10 + n))) (plain 0)
    (λ is. chosen IsSettled (root_of i.entries export).passes (register (thread s t) (10 + n)) (untagged (register (thread s t) (10 + n))) (λ is. (h.threads t).registers (10 + n)) (λ not e. refl))
    (λ not. plain_settled 0)

enters_settled : (i : Image) (s : State) (t export high : ℕ) → MadeSettled i → Settled s → Settled (entering i s t export high)
enters_settled i s t export high made h =
    let old = h.threads t in
    let zero_ : IsSettled (plain 0) = plain_settled 0 in
    record {
      granules = zeroed_settled i s t high h;
      threads = set_settled s t (entered i (thread s t) (compartment_of (root i export).owner) export high (callee_start i (thread s t) t (compartment_of (root i export).owner) export high)) h (record {
        pcc = address_settles (made_cap i (code_entry i (compartment_of (root i export).owner))) (gate_for i.entries.gates export).code;
        registers = sixteen IsSettled _ _ _ _ _ _ _ _ _ _ _ _ _ _ _ _ zero_ (made 0) (derives_settle _ _ _ _ _ _ _) (made (globals_entry i (compartment_of (root i export).owner))) zero_ zero_ zero_ zero_ zero_ zero_ (passed_settled i s t export 0 h) (passed_settled i s t export 1 h) (passed_settled i s t export 2 h)
            (passed_settled i s t export 3 h) (passed_settled i s t export 4 h) (passed_settled i s t export 5 h) zero_;
        frames = (record { c1 = old.registers 1; c2 = old.registers 2; c3 = old.registers 3; c8 = old.registers 8; c9 = old.registers 9 }, old.frames);
      });
    }

freed_settled : (i : Image) (s : State) (t : ℕ) (r : Object) → Settled s → Settled (let_go i s t r)
freed_settled i s t r h = record {
  granules = λ k. freed_cap IsSettled i s r k (λ low high. plain_settled 0) (λ outside. h.granules k);
  threads = set_settled s t (record (thread s t) { registers = map (filtered i (quarantined i s r)) (thread s t).registers }) h (record {
    pcc = (h.threads t).pcc;
    registers = λ n. at_map IsSettled (filtered i (quarantined i s r)) (thread s t).registers n (plain 0) (plain_settled 0) (filtered_settled i (quarantined i s r) (register (thread s t) n) ((h.threads t).registers n));
    frames = (h.threads t).frames;
  });
}

moves_settle : (i : Image) (s : State) (t : ℕ) → MadeSettled i → Settled s → Moves (λ z told. Settled z) i s t
moves_settle i s t made h = record {
  tells = λ n. answers_settled s t (integer n) h (λ e. refl);
  enters = λ high. enters_settled i s t (called i.entries (thread s t)) high made h;
  stops = λ status. stops_settled s t status h;
  wakes = λ address most. wakes_settled s t address most h;
  hands = λ size r is. answers_settled (with_object s r) t (object_cap r) (record { granules = h.granules; threads = h.threads }) (derives_settle _ _ _ _ _ _ _);
  gives = λ r c is. answers_settled (let_go i s t r) t (integer 0) (freed_settled i s t r h) (λ e. refl);
  seals = λ size key r is k. answers_settled (with_object (with_row s r key) r) t (sealed_token r) (record { granules = h.granules; threads = h.threads }) (settled (object_cap r).tag (word_sealed (object_cap r) 3) (object_cap r).shadow);
  opens = λ key r is. answers_settled s t (opened_token (register (thread s t) 11)) h (settled (register (thread s t) 11).tag (word_sealed (register (thread s t) 11) 0) (register (thread s t) 11).shadow);
}

steps_settle : (b : Platform) (s : State) (t : ℕ) → MadeSettled b.image → Settled s → steps.Steps Settled b s t
steps_settle b s t made h = record {
  handles = λ why f fs frames is. handler_settled b.image s t why f fs made frames h;
  ends = λ value. value_settled b.image s t value (thread s t).frames refl h;
  back = λ plain_one. returned_settled b.image s t (thread s t).frames refl h;
  done = λ k. done_settled s t (steps.carried b s t k) h (class_settled b s t (class_of k) k (operands_of k).to (operands_of k).first (operands_of k).second h);
  moves = moves_settle b.image s t made h;
}

executed_settled : (b : Platform) (s : State) (t : ℕ) → MadeSettled b.image → Settled s → Settled (executed b s t).0
executed_settled b s t made h = steps.executed_left Settled b s t (steps_settle b s t made h)

-- ---- a step

preempted_settled : (s : State) (o : Option ℕ) → Settled s → Settled (preempted_from s o)
preempted_settled s None h = h
preempted_settled s (Some t) h = chosen Settled (s.pending && not (thread s t).posture.off) (record s { running = None; pending = false }) s (λ is. record { granules = h.granules; threads = h.threads }) (λ not. h)

picked_settled : (b : Platform) (s : State) (o : Option ℕ) → Settled s → Settled (picked_as b s o)
picked_settled b s None h = h
picked_settled b s (Some t) h = record {
  granules = h.granules;
  threads = set_settled s t (picked b.image s (thread s t)) h (record {
    pcc = filtered_settled b.image s (thread s t).pcc (h.threads t).pcc;
    registers = λ n. at_map IsSettled (filtered b.image s) (thread s t).registers n (plain 0) (plain_settled 0) (filtered_settled b.image s (register (thread s t) n) ((h.threads t).registers n));
    frames = (h.threads t).frames;
  });
}

scheduled_settled : (b : Platform) (s : State) (o : Option ℕ) → Settled s → Settled (picked_from b s o)
scheduled_settled b s (Some t) h = h
scheduled_settled b s None h = picked_settled b s (pick b.image.priorities (statuses_of s.threads) s.picks) h

continued_settled : (b : Platform) (s : State) (o : Option ℕ) → MadeSettled b.image → Settled s → Settled (continued b s o).0
continued_settled b s None made h = h
continued_settled b s (Some t) made h = let after = executed_settled b s t made h in record { granules = after.granules; threads = after.threads }

stepped_settled : (b : Platform) (s : State) → MadeSettled b.image → Settled s → Settled (stepped b s).0
stepped_settled b s made h =
    let before = preempted_settled (one_more_step s) s.running (record { granules = h.granules; threads = h.threads }) in
    let chosen_one = scheduled_settled b (preempted (one_more_step s)) (preempted (one_more_step s)).running before in
    continued_settled b (scheduled b (preempted (one_more_step s))) (scheduled b (preempted (one_more_step s))).running made chosen_one

-- ---- a tick

timed_settled : (t : Thread) → ThreadSettled t → ThreadSettled (timed t)
timed_settled t h = record { pcc = h.pcc; registers = h.registers; frames = h.frames }

slept_settled : (s : State) → Settled s → (t : ℕ) → ThreadSettled (get_or (map timed s.threads) t nobody)
slept_settled s h t = at_map ThreadSettled timed s.threads t nobody nobody_settled (timed_settled (thread s t) (h.threads t))

interrupted_settled : (s : State) (o : Option ℕ) → Settled s → Settled (interrupted s o)
interrupted_settled s None h = h
interrupted_settled s (Some t) h = chosen Settled (thread s t).posture.off (record s { pending = true }) (record s { running = None }) (λ is. record { granules = h.granules; threads = h.threads }) (λ not. record { granules = h.granules; threads = h.threads })

-- ---- a sweep

slice_settled : (i : Image) (s : State) (low high offset : ℕ) (c : Cap) → IsSettled c → IsSettled (sliced i s low high offset c)
slice_settled i s low high offset c h = chosen IsSettled (nat_le low offset && nat_lt offset high) (filtered i s c) c (λ is. filtered_settled i s c h) (λ not. h)

frames_settled : (i : Image) (s : State) (low high area : ℕ) (fs : List Frame) → Each FrameSettled fs → Each FrameSettled (kept_frames (sliced i s low high) area fs)
frames_settled i s low high area [] h = tt
frames_settled i s low high area (f ∷ fs) h = (
  record {
    c1 = slice_settled i s low high _ f.c1 h.0.c1;
    c2 = slice_settled i s low high _ f.c2 h.0.c2;
    c3 = slice_settled i s low high _ f.c3 h.0.c3;
    c8 = slice_settled i s low high _ f.c8 h.0.c8;
    c9 = slice_settled i s low high _ f.c9 h.0.c9;
  },
  frames_settled i s low high area fs h.1,
)

sliced_settled : (i : Image) (s : State) (low high area : ℕ) (runs : Bool) (t : Thread) → ThreadSettled t → ThreadSettled (kept_thread (sliced i s low high) area runs t)
sliced_settled i s low high area true t h = record { pcc = h.pcc; registers = h.registers; frames = frames_settled i s low high area t.frames h.frames }
sliced_settled i s low high area false t h = record {
  pcc = slice_settled i s low high area t.pcc h.pcc;
  registers = λ n. register_at_slice IsSettled i s low high area t.registers n (plain_settled 0) (slice_settled i s low high (area + 8 * n) (register t n) (h.registers n));
  frames = frames_settled i s low high area t.frames h.frames;
}

with_slice_settled : (i : Image) (s : State) (low high : ℕ) → Settled s → Settled (with_slice i s low high)
with_slice_settled i s low high h = record {
  granules = λ k. granule_at_slice (λ (g : Granule). IsSettled g.cap) i s low high 0 s.granules k (plain_settled 0) (slice_settled i s low high (0 + 8 * k) (granule s k).cap (h.granules k));
  threads = λ t. thread_sliced (λ n x y. ThreadSettled y) i s low high t (λ n. nobody_settled) (sliced_settled i s low high (area_of i t - i.ram) (is_number s.running t) (thread s t) (h.threads t));
}

unmarked_settled : (i : Image) (rows : List Object) (x : ℕ) (gs : List Granule) (k : ℕ) → IsSettled (get_or gs k nothing).cap → IsSettled (get_or (marks_cleared rows x gs) k nothing).cap
unmarked_settled i rows x [] k h = h
unmarked_settled i rows x (g ∷ gs) zero h = h
unmarked_settled i rows x (g ∷ gs) (suc k) h = unmarked_settled i rows (x + 8) gs k h

ended_settled : (i : Image) (s : State) (front : ℕ) → Settled s → Settled (ended_sweep i s front)
ended_settled i s front h = chosen Settled (nat_le (ram_size s) front) (sweep_over i s) s (λ is. record { granules = λ k. unmarked_settled i s.objects i.ram s.granules k (h.granules k); threads = h.threads }) (λ not. h)

began_settled : (s : State) (o : Option ℕ) → Settled s → Settled (sweep_began s o)
began_settled s None h = chosen Settled (has_quarantined s.objects) (record s { objects = painted s.objects; front = Some 0 }) s (λ is. record { granules = h.granules; threads = h.threads }) (λ not. h)
began_settled s (Some front) h = h

swept_settled : (i : Image) (s : State) (o : Option ℕ) → Settled s → Settled (sweep_on i s o)
swept_settled i s None h = h
swept_settled i s (Some front) h = ended_settled i (with_slice i s front (slice_end i s front)) (slice_end i s front) (with_slice_settled i s front (slice_end i s front) h)

-- ---- whole

pub event_settles : (b : Platform) (s : State) (e : Event) → MadeSettled b.image → Settled s → Settled (happens b s e).0
event_settles b s Step made h = stepped_settled b s made h
event_settles b s Tick made h = interrupted_settled (record s { threads = map timed s.threads; time = s.time + 1; counts = record s.counts { ticks = s.counts.ticks + 1 } }) s.running (record { granules = h.granules; threads = slept_settled s h })
event_settles b s Sweep made h =
    let counted : State = record s { counts = record s.counts { sweeps = s.counts.sweeps + 1 } } in
    let began = began_settled (record s { counts = record s.counts { sweeps = s.counts.sweeps + 1 } }) s.front (record { granules = h.granules; threads = h.threads }) in
    swept_settled b.image (sweep_began (record s { counts = record s.counts { sweeps = s.counts.sweeps + 1 } }) s.front) (sweep_began (record s { counts = record s.counts { sweeps = s.counts.sweeps + 1 } }) s.front).front began
event_settles b s (Input n byte) made h = record { granules = h.granules; threads = h.threads }

pub run_settles : (b : Platform) (s : State) (es : List Event) → MadeSettled b.image → Settled s → Settled (run b s es)
unfolding run
run_settles b s [] made h = h
run_settles b s (e ∷ es) made h = run_settles b (happens b s e).0 es made (event_settles b s e made h)
