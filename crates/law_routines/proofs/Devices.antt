-- No event makes devices more or fewer.
use Rattle.std.proofs.Common.{◌≡◌, ℕ, ◌+◌, ◌-◌, ◌&&◌, not, nat_le, List, length, map, [], ◌∷◌, Option, Some, None, Result, Ok, Err, refl, ◌∙◌}
use Rattle.std.proofs.lemmas.List.{length-set}
use Rattle.def_words.specs.declared.Cap.{Cap}
use Rattle.def_words.specs.declared.Trap as trap_words
use Rattle.def_instr.specs.declared.Instr.{Instr}
use Rattle.def_machine.specs.Image.{Image}
use Rattle.def_machine.specs.State.{State, Frame, thread}
use Rattle.def_machine.specs.Frames.{returned, ended_with}
use Rattle.def_machine.specs.Heap.{swept, sweep_on, sweep_began, with_slice, slice_end, ram_size}
use Rattle.def_machine.specs.Objects.{has_quarantined}
use Rattle.def_machine.specs.Threads.{statuses_of, timed}
use Rattle.def_sched.specs.Picks.{pick}
use Rattle.def_step.specs.declared.Access.{Access}
use Rattle.def_step.specs.declared.Class.{Class}
use Rattle.def_step.specs.declared.Class.TheVariants as class
use Rattle.def_step.specs.declared.Event.{Event}
use Rattle.def_step.specs.declared.Event.TheVariants.{Step, Tick, Sweep, Input}
use Rattle.law_routines.proofs.Accesses.{by_access}
use Rattle.def_step.specs.Accesses.{MemoryAndDevices, Accessed, access_of, access_checks, access_address, access_result, accessed, stored_value, unless}
use Rattle.def_step.specs.Checks.{first_failed}
use Rattle.def_step.specs.Devices.{DeviceStates, found, bank_read_at, bank_written_at, left_by_read, left_by_write, device, registers_base, after_input}
use Rattle.def_step.specs.Jumps.{Flowed, flow_result}
use Rattle.def_step.specs.Operands.{operands_of, class_of}
use Rattle.def_step.specs.Instructions.{Effect, Context, accesses, flows, executed, operand, carried_out, named_by, around}
use Rattle.def_machine.specs.Platform.{Platform}
use Rattle.def_step.specs.Events.{happens, stepped, continued, scheduled, picked_as, picked_from, preempted, preempted_from, one_more_step, interrupted, run}
use Rattle.law_lists.proofs.Tests.{chosen}
use Rattle.law_routines.proofs.Stepping.{Steps, IfDone, carried, executed_left}

-- ---- an access

read_keeps : (k : DeviceStates) (o : Option ℕ) (at width : ℕ) → length (bank_read_at k o at width).states ≡ length k.states
read_keeps k None at width = refl
read_keeps k (Some n) at width = length-set k.states n (left_by_read (device k.states n) (at - registers_base k.bases n) width)

written_keeps : (k : DeviceStates) (o : Option ℕ) (at width value : ℕ) → length (bank_written_at k o at width value).states ≡ length k.states
written_keeps k None at width value = refl
written_keeps k (Some n) at width value = length-set k.states n (left_by_write (device k.states n) (at - registers_base k.bases n) width value)

abbrev Keeps : MemoryAndDevices → Accessed → Type 0
Keeps p m = length m.bank.states ≡ length p.bank.states

access_keeps : (a : Access) (x y : Cap) (at : ℕ) (p : MemoryAndDevices) → Keeps p (accessed a x y at p)
access_keeps a x y at p = by_access (Keeps p) a x y at p (record {
  loads = λ ram loads. refl;
  stores = λ ram stores. refl;
  reads = λ loads. read_keeps p.bank (found p.bank.bases at) at a.width;
  writes = λ stores. written_keeps p.bank (found p.bank.bases at) at a.width (stored_value a y);
})

-- ---- an instruction

-- where it is done, there are as many devices
abbrev KeepsIfDone : ℕ → Result Effect trap_words.Trap → Type 0
KeepsIfDone n (Err why) = Unit {0}
KeepsIfDone n (Ok d) = length d.bank.states ≡ n

unless_keeps : (a : Context) (to : ℕ) (o : Option trap_words.Trap) (m : Accessed) → Keeps a.space m → KeepsIfDone (length a.space.bank.states) (accesses a to (unless o m))
unless_keeps a to (Some why) m k = tt
unless_keeps a to None m k = k

result_keeps : (a : Context) (to : ℕ) (i : Instr) (x y : Cap) → KeepsIfDone (length a.space.bank.states) (accesses a to (access_result i x y a.space))
unfolding access_result
result_keeps a to i x y =
    unless_keeps a to (first_failed (access_checks (access_of i) x y (access_address (access_of i) x)))
    (accessed (access_of i) x y (access_address (access_of i) x) a.space)
    (access_keeps (access_of i) x y (access_address (access_of i) x) a.space)

flow_keeps : (a : Context) (to : ℕ) (r : Result Flowed trap_words.Trap) → KeepsIfDone (length a.space.bank.states) (flows a to r)
flow_keeps a to (Err why) = tt
flow_keeps a to (Ok f) = refl

carried_keeps : (c : Class) (i : Instr) (to : ℕ) (x y : Cap) (named : ℕ) (a : Context) → KeepsIfDone (length a.space.bank.states) (carried_out c i to x y named a)
carried_keeps class.Integer i to x y named a = refl
carried_keeps class.Capability i to x y named a = refl
carried_keeps class.System i to x y named a = tt
carried_keeps class.Jump i to x y named a = flow_keeps a to (flow_result i x y a.pcc a.posture named)
carried_keeps class.Access i to x y named a = result_keeps a to i x y
carried_keeps class.Fence i to x y named a = refl
carried_keeps class.Call i to x y named a = tt
carried_keeps class.Break i to x y named a = tt

-- ---- a step

abbrev Same : State → State → Type 0
Same s z = length z.devices ≡ length s.devices

ended_keeps : (i : Image) (s : State) (t value : ℕ) (fs : List Frame) → Same s (ended_with i s t value fs)
ended_keeps i s t value [] = refl
ended_keeps i s t value (f ∷ []) = refl
ended_keeps i s t value (f ∷ g ∷ fs) = refl

returned_keeps : (i : Image) (s : State) (t : ℕ) (fs : List Frame) → Same s (returned i s t fs)
returned_keeps i s t [] = refl
returned_keeps i s t (f ∷ []) = refl
returned_keeps i s t (f ∷ g ∷ fs) = refl

done_keeps : (s : State) (t : ℕ) (r : Result Effect trap_words.Trap) → KeepsIfDone (length s.devices) r → IfDone (Same s) s t r
done_keeps s t (Err why) k = tt
done_keeps s t (Ok d) k = k

steps_keep : (b : Platform) (s : State) (t : ℕ) → Steps (Same s) b s t
steps_keep b s t = record {
  handles = λ why f fs frames is. refl;
  ends = λ value. ended_keeps b.image s t value (thread s t).frames;
  back = λ plain_one. returned_keeps b.image s t (thread s t).frames;
  done = λ k. done_keeps s t (carried b s t k)
      (carried_keeps (class_of k) k (operands_of k).to (operand s t (operands_of k).first) (operand s t (operands_of k).second) (named_by b.image (operand s t (operands_of k).first)) (around b s t));
  moves = record { tells = λ n. refl; enters = λ high. refl; stops = λ status. refl; wakes = λ address most. refl; hands = λ size r is. refl; gives = λ r c is. refl; seals = λ size key r is k. refl; opens = λ key r is. refl };
}

executed_keeps : (b : Platform) (s : State) (t : ℕ) → Same s (executed b s t).0
executed_keeps b s t = executed_left (Same s) b s t (steps_keep b s t)

continued_keeps : (b : Platform) (s : State) (o : Option ℕ) → Same s (continued b s o).0
continued_keeps b s None = refl
continued_keeps b s (Some t) = executed_keeps b s t

picked_keeps : (b : Platform) (s : State) (o : Option ℕ) → Same s (picked_from b s o)
picked_keeps b s (Some t) = refl
picked_keeps b s None = as_picked (pick b.image.priorities (statuses_of s.threads) s.picks)
  where
    as_picked : (p : Option ℕ) → Same s (picked_as b s p)
    as_picked None = refl
    as_picked (Some t) = refl

preempted_keeps : (s : State) (o : Option ℕ) → Same s (preempted_from s o)
preempted_keeps s None = refl
preempted_keeps s (Some t) = chosen (Same s) (s.pending && not (thread s t).posture.off) _ _ (λ _. refl) (λ _. refl)

stepped_keeps : (b : Platform) (s : State) → Same s (stepped b s).0
stepped_keeps b s =
    continued_keeps b (scheduled b (preempted (one_more_step s))) (scheduled b (preempted (one_more_step s))).running
    ∙ (picked_keeps b (preempted (one_more_step s)) (preempted (one_more_step s)).running ∙ preempted_keeps (one_more_step s) s.running)

-- ---- other events

interrupted_keeps : (s : State) (o : Option ℕ) → Same s (interrupted s o)
interrupted_keeps s None = refl
interrupted_keeps s (Some t) = chosen (Same s) (thread s t).posture.off _ _ (λ _. refl) (λ _. refl)

began_keeps : (s : State) (o : Option ℕ) → Same s (sweep_began s o)
began_keeps s None = chosen (Same s) (has_quarantined s.objects) _ _ (λ _. refl) (λ _. refl)
began_keeps s (Some front) = refl

on_keeps : (i : Image) (s : State) (o : Option ℕ) → Same s (sweep_on i s o)
on_keeps i s None = refl
on_keeps i s (Some front) =
    chosen (Same s) (nat_le (ram_size (with_slice i s front (slice_end i s front))) (slice_end i s front)) _ _ (λ _. refl) (λ _. refl)

swept_keeps : (i : Image) (s : State) → Same s (swept i s)
swept_keeps i s = on_keeps i (sweep_began s s.front) (sweep_began s s.front).front ∙ began_keeps s s.front

pub event_keeps : (b : Platform) (s : State) (e : Event) → Same s (happens b s e).0
event_keeps b s Step = stepped_keeps b s
event_keeps b s Tick =
    interrupted_keeps
    (record s {
      threads = map timed s.threads;
      time = s.time + 1;
      counts = record s.counts { ticks = s.counts.ticks + 1 };
    })
    s.running
event_keeps b s Sweep = swept_keeps b.image (record s { counts = record s.counts { sweeps = s.counts.sweeps + 1 } })
event_keeps b s (Input n byte) = length-set s.devices n (after_input (device s.devices n) byte)

pub run_keeps : (b : Platform) (s : State) (es : List Event) → Same s (run b s es)
unfolding run
run_keeps b s [] = refl
run_keeps b s (e ∷ es) = run_keeps b (happens b s e).0 es ∙ event_keeps b s e
