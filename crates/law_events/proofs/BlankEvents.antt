-- Every event leaves what is hidden zero.
use Rattle.std.proofs.Common.{ℕ, zero, suc, ◌≡◌, ◌≤◌, ◌<◌, ◌+◌, ◌-◌, ◌*◌, ◌/◌, ◌&&◌, inl, inr, sym, subst, arith, true, false, not, nat_le, nat_lt, List, [], ◌∷◌, map, Option, Some, None, Result, Ok, Err, refl, ap, ◌∙◌}
use Rattle.law_lists.proofs.Tests.{chosen, lt_tells}
use Rattle.law_granules.proofs.Lists.{zeroed_at}
use Rattle.def_words.specs.declared.Cap.{Cap}
use Rattle.def_words.specs.declared.Trap.{Trap}
use Rattle.def_memory.specs.declared.Granule.{Granule}
use Rattle.def_memory.specs.Granules.{plain, granule_at}
use Rattle.def_memory.specs.Ranges.{zeroed_from}
use Rattle.def_sched.specs.Picks.{pick}
use Rattle.def_instr.specs.declared.Instr.{Instr}
use Rattle.def_machine.specs.Image.{Image, root, address_of, granule_of, stack_entry, stack_base, stack_top}
use Rattle.def_machine.specs.State.{State, Frame, Object, thread, register}
use Rattle.def_machine.specs.Objects.{Each, has_quarantined, painted, unpainted}
use Rattle.def_machine.specs.Threads.{timed, statuses_of}
use Rattle.def_machine.specs.Frames.{returned, ended_with}
use Rattle.def_machine.specs.Memory.{filtered}
use Rattle.def_machine.specs.Heap.{with_object, quarantined, freed, sliced, with_slice, slice_end, sweep_over, ram_size, ended_sweep, sweep_began, sweep_on}
use Rattle.def_confined.specs.Changes.{Frees}
use Rattle.def_confined.specs.Confined.{Confined, ObjectFits}
use Rattle.def_confined.specs.Keeps.{Keeps}
use Rattle.def_confined.specs.Partitioned.{Partitioned}
use Rattle.def_hidden.specs.Hidden.{MayReach, Shut, Blank, is_hidden}
use Rattle.def_safety.specs.Wired.{Wired}
use Rattle.def_step.specs.declared.Class.{Class}
use Rattle.def_step.specs.declared.Class.TheVariants as class
use Rattle.def_step.specs.declared.Event.{Event}
use Rattle.def_step.specs.declared.Event.TheVariants.{Step, Tick, Sweep, Input}
use Rattle.def_step.specs.Accesses.{Accessed}
use Rattle.def_step.specs.Jumps.{Flowed}
use Rattle.def_step.specs.Operands.{operands_of, class_of}
use Rattle.def_step.specs.Instructions.{Effect, carried_out, named_by, flows, accesses, around, operand, executed}
use Rattle.def_machine.specs.Platform.{Platform}
use Rattle.def_step.specs.Events.{preempted_from, preempted, picked_as, picked_from, scheduled, continued, one_more_step, stepped, interrupted, happens, run}
use Rattle.law_moves.proofs.Rows.{each_map}
use Rattle.law_moves.proofs.Quarantines.{one_there}
use Rattle.law_moves.proofs.Frees.{freed_cap}
use Rattle.law_moves.proofs.Slices.{granule_at_slice}
use Rattle.law_events.proofs.Events.{ready_kept, event_keeps}
use Rattle.def_confined.specs.Facts.{Facts}
use Rattle.law_routines.proofs.Leaving.{Moves}
use Rattle.law_routines.proofs.Stepping.{Steps, IfDone, carried, executed_left}
use Rattle.def_step.specs.declared.TheConstants.{TRAP_RECORD}
use Rattle.def_step.specs.Handlers.{record_end, record_words, is_handled, handler_entered}
use Rattle.law_events.proofs.Entered.{says, lies}
use Rattle.law_events.proofs.Begins.{words_rest}
use Rattle.law_events.proofs.Whole.{stack_in_ram, stack_stores}
use Rattle.law_events.proofs.Seeing.{away_seen}
use Rattle.def_reach.specs.Roots.{Listing}
use Rattle.ct_entry.specs.declared.rows.Kind.TheVariants as kind
use Rattle.law_events.proofs.Rows.{hidden_as, among_live, quarantine_live, painted_live, left_live}
use Rattle.law_events.proofs.Stores.{BlankIn, Reaching, IfBlank, result_blank}
use Rattle.law_moves.proofs.Ends.{unmarked_cap}

-- ---- the heap

-- an object more leaves what is hidden zero
pub object_blank : (i : Image) (s : State) (r : Object) → Blank i s → Blank i (with_object s r)
object_blank i s r h k hidden = h k (hidden_as i s.objects (with_object s r).objects k (among_live r s.objects (address_of i k)) hidden)

-- so does an object that is freed
pub freed_blank : (i : Image) (s : State) (t : ℕ) (r : Object) → Confined i s → Frees s t r → Blank i s → Blank i (freed i s t r)
freed_blank i s t r held f h k hidden = freed_cap (λ (c : Cap). c ≡ plain 0) i s r k
    (λ low high. refl)
    (λ outside. h k (hidden_as i s.objects (quarantined i s r).objects k (quarantine_live r s.objects (address_of i k) (one_there r s.objects held.apart f.there) outside) hidden))

-- ---- returns and unwinds

zeroed_blank : (i : Image) (s : State) (t high : ℕ) → Blank i s → (k : ℕ) → is_hidden i s.objects k ≡ true → (granule_at (zeroed_from (stack_base i t) high i.ram s.granules) k).cap ≡ plain 0
zeroed_blank i s t high h k hidden = zeroed_at (stack_base i t) high i.ram s.granules k (λ g. g.cap ≡ plain 0) (λ low below. refl) (λ outside. h k hidden)

returned_blank : (i : Image) (s : State) (t : ℕ) (fs : List Frame) → Blank i s → Blank i (returned i s t fs)
returned_blank i s t [] h = h
returned_blank i s t (f ∷ []) h = zeroed_blank i s t f.top h
returned_blank i s t (f ∷ g ∷ gs) h = zeroed_blank i s t f.top h

ended_blank : (i : Image) (s : State) (t value : ℕ) (fs : List Frame) → Blank i s → Blank i (ended_with i s t value fs)
ended_blank i s t value [] h = h
ended_blank i s t value (f ∷ []) h = zeroed_blank i s t f.top h
ended_blank i s t value (f ∷ g ∷ gs) h = zeroed_blank i s t f.top h

-- ---- an error handler

-- a stack isn't hidden
stack_seen : (i : Image) (s : State) (t k : ℕ) → Partitioned i → Shut i → (root i (stack_entry i t)).origin ≡ Listing kind.Stack → i.ram ≤ stack_base i t → stack_base i t ≤ address_of i k → address_of i k < stack_top i t → is_hidden i s.objects k ≡ false
stack_seen i s t k p shut stack above low high =
    let may = subst (λ r. MayReach r) (sym (p.stacks_are (stack_entry i t) stack).0) (inr (inl stack_stores)) in
    let back : granule_of i (address_of i k) ≡ k = omega arith in
    subst (λ n. is_hidden i s.objects n ≡ false) back (away_seen i s.objects (address_of i k) shut (omega arith) (shut.trusted (stack_entry i t) (address_of i k) may low high) (shut.heap (stack_entry i t) (address_of i k) may low high))

handler_blank : (i : Image) (s : State) (t : ℕ) (why : Trap) (f : Frame) (fs : List Frame) → Partitioned i → Shut i → Confined i s → (thread s t).frames ≡ f ∷ fs → is_handled i (stack_base i t) (thread s t) f ≡ true → Blank i s → Blank i (handler_entered i s t why f fs)
handler_blank i s t why f fs p shut h frames is blank k hidden =
    let say = says i s t f is in
    let above = stack_in_ram i s t f fs p h frames say in
    let l = lies i s t f fs p above h frames say in
    let low = l.low in
    let high = l.high in
    elim (lt_tells k ((record_end (register (thread s t) 2) - TRAP_RECORD - i.ram) / 8)) [
      | inl before ↦ ap (λ (g : Granule). g.cap) (words_rest s.granules ((record_end (register (thread s t) 2) - TRAP_RECORD - i.ram) / 8) (record_words (thread s t) why) k (inl before.1)) ∙ blank k hidden
      | inr from ↦ elim (lt_tells k ((record_end (register (thread s t) 2) - TRAP_RECORD - i.ram) / 8 + 10)) [
        | inl inside ↦ (let at_least = from.1 in let less = inside.1 in absurd (let clash : true ≡ false = sym hidden ∙ stack_seen i s t k p shut l.stack above (omega (arith, low, at_least)) (omega (arith, high, less)) in cc))
        | inr past ↦ ap (λ (g : Granule). g.cap) (words_rest s.granules ((record_end (register (thread s t) 2) - TRAP_RECORD - i.ram) / 8) (record_words (thread s t) why) k (inr past.1)) ∙ blank k hidden
      ]
    ]

-- ---- an instruction

abbrev IfLeft : Platform → State → Result Effect Trap → Type 0
IfLeft b s (Err w) = Unit {0}
IfLeft b s (Ok d) = BlankIn b s d.granules

done_blank : (b : Platform) (s : State) (t : ℕ) (r : Result Effect Trap) → IfLeft b s r → IfDone (Blank b.image) s t r
done_blank b s t (Err why) done = tt
done_blank b s t (Ok d) done = done

flows_blank : (b : Platform) (s : State) (t to : ℕ) (r : Result Flowed Trap) → Blank b.image s → IfLeft b s (flows (around b s t) to r)
flows_blank b s t to (Err w) h = tt
flows_blank b s t to (Ok j) h = h

accesses_blank : (b : Platform) (s : State) (t to : ℕ) (r : Result Accessed Trap) → IfBlank b s r → IfLeft b s (accesses (around b s t) to r)
accesses_blank b s t to (Err w) h = tt
accesses_blank b s t to (Ok m) h = h

class_blank : (b : Platform) (s : State) (t : ℕ) (c : Class) (k : Instr) (to m n : ℕ) → Reaching b s t → IfLeft b s (carried_out c k to (operand s t m) (operand s t n) (named_by b.image (operand s t m)) (around b s t))
class_blank b s t class.Integer k to m n r = r.blank
class_blank b s t class.Capability k to m n r = r.blank
class_blank b s t class.System k to m n r = tt
class_blank b s t class.Jump k to m n r = flows_blank b s t to _ r.blank
class_blank b s t class.Access k to m n r = accesses_blank b s t to _ (result_blank b s t m n k r)
class_blank b s t class.Fence k to m n r = r.blank
class_blank b s t class.Call k to m n r = tt
class_blank b s t class.Break k to m n r = tt

-- a routine changes RAM and objects by a call, an allocation or a free alone
moves_blank : (b : Platform) (s : State) (t : ℕ) → Reaching b s t → Moves (λ z told. Blank b.image z) b.image s t
moves_blank b s t r = record {
  tells = λ n. r.blank;
  enters = λ high. zeroed_blank b.image s t high r.blank;
  stops = λ status. r.blank;
  wakes = λ address most. r.blank;
  hands = λ size o is. object_blank b.image s o r.blank;
  gives = λ o c f. freed_blank b.image s t o r.held (record { running = r.runs; there = f.there; live = f.live }) r.blank;
  seals = λ size key o is k. object_blank b.image s o r.blank;
  opens = λ key o is. r.blank;
}

steps_blank : (b : Platform) (s : State) (t : ℕ) → Partitioned b.image → Reaching b s t → Steps (Blank b.image) b s t
steps_blank b s t parts r = record {
  handles = λ why f fs frames is. handler_blank b.image s t why f fs parts r.shut r.held frames is r.blank;
  ends = λ value. ended_blank b.image s t value (thread s t).frames r.blank;
  back = λ unmarked. returned_blank b.image s t (thread s t).frames r.blank;
  done = λ k. done_blank b s t (carried b s t k) (class_blank b s t (class_of k) k (operands_of k).to (operands_of k).first (operands_of k).second r);
  moves = moves_blank b s t r;
}

executed_blank : (b : Platform) (s : State) (t : ℕ) → Partitioned b.image → Reaching b s t → Blank b.image (executed b s t).0
executed_blank b s t parts r = executed_left (Blank b.image) b s t (steps_blank b s t parts r)

-- ---- a step

preempted_blank : (i : Image) (s : State) (o : Option ℕ) → Blank i s → Blank i (preempted_from s o)
preempted_blank i s None h = h
preempted_blank i s (Some t) h = chosen (Blank i) (s.pending && not (thread s t).posture.off) (record s { running = None; pending = false }) s (λ is. h) (λ not. h)

picked_blank : (b : Platform) (s : State) (o : Option ℕ) → Blank b.image s → Blank b.image (picked_as b s o)
picked_blank b s None h = h
picked_blank b s (Some t) h = h

scheduled_blank : (b : Platform) (s : State) (o : Option ℕ) → Blank b.image s → Blank b.image (picked_from b s o)
scheduled_blank b s (Some t) h = h
scheduled_blank b s None h = picked_blank b s (pick b.image.priorities (statuses_of s.threads) s.picks) h

continued_blank : (b : Platform) (s : State) (o : Option ℕ) → s.running ≡ o → Partitioned b.image → Shut b.image → Confined b.image s → Blank b.image s → Blank b.image (continued b s o).0
continued_blank b s None runs parts shut held h = h
continued_blank b s (Some t) runs parts shut held h = executed_blank b s t parts (record { shut = shut; held = held; runs = runs; blank = h })

pub ready_blank : (b : Platform) (s : State) → Blank b.image s → Blank b.image (scheduled b (preempted (one_more_step s)))
ready_blank b s h =
    let before : Blank b.image (preempted (one_more_step s)) = preempted_blank b.image (one_more_step s) s.running h in
    scheduled_blank b (preempted (one_more_step s)) (preempted (one_more_step s)).running before

stepped_blank : (b : Platform) (s : State) → Partitioned b.image → Shut b.image → Confined b.image s → Blank b.image s → Blank b.image (stepped b s).0
stepped_blank b s parts shut held h =
    continued_blank b (scheduled b (preempted (one_more_step s))) (scheduled b (preempted (one_more_step s))).running refl parts shut (ready_kept b s parts held).confined (ready_blank b s h)

-- ---- a tick

interrupted_blank : (i : Image) (s : State) (o : Option ℕ) → Blank i s → Blank i (interrupted s o)
interrupted_blank i s None h = h
interrupted_blank i s (Some t) h = chosen (Blank i) (thread s t).posture.off (record s { pending = true }) (record s { running = None }) (λ is. h) (λ not. h)

-- ---- a sweep

sliced_zero : (i : Image) (s : State) (low high offset : ℕ) → sliced i s low high offset (plain 0) ≡ plain 0
sliced_zero i s low high offset = chosen (λ z. z ≡ plain 0) (nat_le low offset && nat_lt offset high) (filtered i s (plain 0)) (plain 0) (λ is. refl) (λ not. refl)

slice_blank : (i : Image) (s : State) (low high : ℕ) → Blank i s → Blank i (with_slice i s low high)
slice_blank i s low high h k hidden = granule_at_slice (λ (g : Granule). g.cap ≡ plain 0) i s low high 0 s.granules k refl (ap (sliced i s low high (0 + 8 * k)) (h k hidden) ∙ sliced_zero i s low high (0 + 8 * k))

over_blank : (i : Image) (s : State) → Each (λ (r : Object). r.live ≡ true → r.painted ≡ false) s.objects → Blank i s → Blank i (sweep_over i s)
over_blank i s fits h k hidden = unmarked_cap s.objects i.ram s.granules k ∙ h k (hidden_as i s.objects (unpainted s.objects) k (λ lives. left_live s.objects (address_of i k) fits ∙ lives) hidden)

over_at : (i : Image) (s : State) (front : ℕ) → Each (λ (r : Object). r.live ≡ true → r.painted ≡ false) s.objects → Blank i s → Blank i (ended_sweep i s front)
over_at i s front fits h = chosen (Blank i) (nat_le (ram_size s) front) (sweep_over i s) s (λ is. over_blank i s fits h) (λ not. h)

pub record Sound (i : Image) (s : State) : Type 0 where
  pub fits : Each (λ (r : Object). r.live ≡ true → r.painted ≡ false) s.objects
  pub blank : Blank i s

painted_fits : (rs : List Object) → Each (λ (r : Object). r.live ≡ true → r.painted ≡ false) (painted rs)
painted_fits [] = tt
painted_fits (r ∷ rs) = (λ lives. ap not lives, painted_fits rs)

began_sound : (i : Image) (s : State) (o : Option ℕ) → Sound i s → Sound i (sweep_began s o)
began_sound i s None h = chosen (Sound i) (has_quarantined s.objects) (record s { objects = painted s.objects; front = Some 0 }) s
    (λ is. record {
      fits = painted_fits s.objects;
      blank = λ k hidden. h.blank k (hidden_as i s.objects (painted s.objects) k (λ lives. painted_live s.objects (address_of i k) ∙ lives) hidden);
    })
    (λ not. h)
began_sound i s (Some front) h = h

swept_blank : (i : Image) (s : State) (o : Option ℕ) → Sound i s → Blank i (sweep_on i s o)
swept_blank i s None h = h.blank
swept_blank i s (Some front) h = over_at i (with_slice i s front (slice_end i s front)) (slice_end i s front) h.fits (slice_blank i s front (slice_end i s front) h.blank)

-- ---- whole

pub event_blank : (b : Platform) (s : State) (e : Event) → Partitioned b.image → Wired b → Shut b.image → Keeps b.image s → Blank b.image s → Blank b.image (happens b s e).0
event_blank b s Step parts wired shut k h = stepped_blank b s parts shut k.confined h
event_blank b s Tick parts wired shut k h = interrupted_blank b.image (record s { threads = map timed s.threads; time = s.time + 1; counts = record s.counts { ticks = s.counts.ticks + 1 } }) s.running h
event_blank b s (Input n byte) parts wired shut k h = h
event_blank b s Sweep parts wired shut k h =
    let sound : Sound b.image (record s { counts = record s.counts { sweeps = s.counts.sweeps + 1 } }) = record {
      fits = each_map (ObjectFits b.image s.next) (λ (r : Object). r.live ≡ true → r.painted ≡ false) s.objects (λ r f. f.unpainted) k.confined.fits;
      blank = h;
    } in
    swept_blank b.image (sweep_began (record s { counts = record s.counts { sweeps = s.counts.sweeps + 1 } }) s.front) (sweep_began (record s { counts = record s.counts { sweeps = s.counts.sweeps + 1 } }) s.front).front
    (began_sound b.image (record s { counts = record s.counts { sweeps = s.counts.sweeps + 1 } }) s.front sound)

-- any list of events leaves what is hidden zero
pub run_blank : (b : Platform) (s : State) (es : List Event) → Partitioned b.image → Facts b.image → Wired b → Shut b.image → Keeps b.image s → Blank b.image s → Blank b.image (run b s es)
unfolding run
run_blank b s [] parts facts wired shut k h = h
run_blank b s (e ∷ es) parts facts wired shut k h = run_blank b (happens b s e).0 es parts facts wired shut (event_keeps b s e parts facts wired k) (event_blank b s e parts wired shut k h)
