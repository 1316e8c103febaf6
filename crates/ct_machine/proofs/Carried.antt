-- What the code leaves of an instruction, of a frame's end and of an error handler's entry is what the written step
-- leaves.
use Rattle.std.proofs.Common.{ℕ, ◌≡◌, ◌<◌, Bool, true, false, cond, nat_lt, List, [], ◌∷◌, length, Option, None, refl, sym, ap, ◌∙◌, slice_set, arith, subst}
use Rattle.std.proofs.Math.ListN.{get_or, set}
use Rattle.std.proofs.lemmas.List.{length-set}
use Rattle.def_profile.specs.declared.answers.TheConstants.{UNWOUND}
use Rattle.ct_entry.specs.Listed.{Listed}
use Rattle.ct_entry.specs.declared.acts.Deed.{Deed}
use Rattle.def_words.specs.declared.Cap.{Cap}
use Rattle.def_words.specs.declared.Trap as words
use Rattle.def_memory.specs.declared.Granule.{Granule}
use Rattle.def_memory.specs.Granules.{plain}
use Rattle.def_sched.specs.declared.Status.TheVariants.{Ended}
use Rattle.def_machine.specs.Image.{Image, handler_entry, stack_base}
use Rattle.def_machine.specs.State.{State, Thread, Frame, DeviceState, Counts, thread, nobody, register}
use Rattle.def_machine.specs.Threads.{with_statuses}
use Rattle.def_machine.specs.Memory.{filtered_in}
use Rattle.def_machine.specs.Frames as frames
use Rattle.def_machine.specs.Frames.{left_with, left_by, answer_by}
use Rattle.def_step.specs.Handlers.{Handed, handled, handled_by, handler_entered, handler_value, is_handled, is_handled_by, record_words, return_taken, trap_taken, words_written, handed}
use Rattle.def_step.specs.Devices.{DeviceStates}
use Rattle.def_step.specs.Instructions.{actor_of, executed}
use Rattle.def_machine.specs.Platform.{Platform, MachineRow}
use Rattle.def_step.specs.Events.{noted, with_deed}
use Rattle.ct_sched.specs.Sched as sched
use Rattle.ct_sched.specs.Sched.{SchedRow}
use Rattle.ct_threads.specs.Handling.{record_place}
use Rattle.ct_engine.specs.Seen as engine
use Rattle.ct_engine.specs.Seen.{area_at, EngineRow}
use Rattle.ct_switch.specs.Exports.{callee_of}
use Rattle.law_events.proofs.Entered.{says}
use Rattle.ct_engine.specs.Calls as calls
use Rattle.ct_engine.specs.Calls.{HeadStands}
use Rattle.ct_engine.specs.Handling.{is_marked, is_handled_of, handed_at, handler_begun}
use Rattle.ct_engine.proofs.AsWritten.{handed_made}
use Rattle.ct_execute.specs.declared.ran.Ran.{Ran}
use Rattle.ct_execute.specs.declared.ran.Ran.TheVariants.{Went, Returned, Native, Trapped}
use Rattle.ct_execute.specs.Deciding.{deed_by, finished, ExecutesAsWritten, IfUnfinished}
use Rattle.ct_machine.specs.Parts.{state_by, IsKept}
use Rattle.ct_machine.specs.Going.{return_at, trap_at, goes_trapped, left_after, goes_after, status_after, IsDone, CameTo}
use Rattle.ct_execute.proofs.Statuses.{changed_with, like_with, set_both}
use Rattle.ct_machine.proofs.Keeping.{begun_kept, machine_by, none_runs, switched_kept, two_more, unfinished_map}
use Rattle.ct_machine.proofs.Taking.{ram_is, frames_with}

-- the error handler of a compartment, where it has one: it is of that compartment, and its table's head is as boot made
-- it
pub record Handles (i : Image) (e : EngineRow) (t actor handler : ℕ) : Type 0 where
  pub is : handler ≡ handler_entry i actor
  pub own : (handler_entry i actor ≡ 0 → ⊥) → callee_of i.entries (handler_entry i actor) ≡ actor
  pub heads : (handler_entry i actor ≡ 0 → ⊥) → HeadStands i e t (handler_entry i actor)

-- the stack stands where the image has it, the actor is the frame's, and the error handler is the actor's
pub record Ends (i : Image) (e : EngineRow) (s : State) (t actor handler : ℕ) : Type 0 where
  pub base : (area_at e t).stack ≡ stack_base i t
  pub some : 0 < length (engine.thread e t).frames
  pub acts : actor ≡ actor_of (thread s t).frames
  pub handles : Handles i e t actor handler

module _ (i : Image) (e : EngineRow) (r : SchedRow) (pending : Bool) (devices : List DeviceState) (time : ℕ) (c : Counts) (t : ℕ) (kept : IsKept i e r) where
  -- what the code leaves is this state, beside which all is kept, and no object is made
  pub record Leaves (new : EngineRow) (row : SchedRow) (x : State) : Type 0 where
    pub is : state_by new row pending devices time c ≡ x
    pub stands : IsKept i new row
    pub next : new.state.next ≡ e.state.next

  -- its last frame ends
  ended_one : (f : Frame) → (area_at e t).stack ≡ stack_base i t
      → Leaves (calls.switched e t f.top nobody None) (sched.with_statuses r (slice_set r.statuses t Ended))
      (frames.switched i (state_by e r pending devices time c) t f.top nobody None)
  ended_one f base = record {
    is = rw (set_both e.state.threads r.statuses t nobody Ended kept.statuses, base, ram_is i e r kept) refl;
    stands = switched_kept i e r t f.top nobody None (set r.statuses t Ended) kept (length-set r.statuses t Ended) (none_runs (calls.switched e t f.top nobody None) (set r.statuses t Ended) refl);
    next = refl;
  }

  -- one ends above others
  ended_more : (f : Frame) (fs : List Frame) (first second : Cap) → (area_at e t).stack ≡ stack_base i t
      → Leaves (calls.switched e t f.top (left_with (filtered_in e.region.ram e.state.granules) (get_or e.state.threads t nobody) f fs first second) e.state.running) r
      (frames.switched i (state_by e r pending devices time c) t f.top (left_by i (state_by e r pending devices time c) (get_or (with_statuses e.state.threads r.statuses) t nobody) f fs first second) e.state.running)
  ended_more f fs first second base =
      let there : with_statuses (set e.state.threads t (left_with (filtered_in e.region.ram e.state.granules) (get_or e.state.threads t nobody) f fs first second)) r.statuses
      ≡ set (with_statuses e.state.threads r.statuses) t (left_with (filtered_in e.region.ram e.state.granules) (get_or (with_statuses e.state.threads r.statuses) t nobody) f fs first second) =
      sym (changed_with (λ (x : Thread). left_with (filtered_in e.region.ram e.state.granules) x f fs first second) (λ x q. refl) e.state.threads r.statuses t) in
      record {
        is = rw (there, base, ram_is i e r kept) refl;
        stands = switched_kept i e r t f.top (left_with (filtered_in e.region.ram e.state.granules) (get_or e.state.threads t nobody) f fs first second) e.state.running r.statuses kept refl kept.ready;
        next = refl;
      }

  -- the return
  returned_by : (entries : Listed) (fs : List Frame) → entries ≡ i.entries → (area_at e t).stack ≡ stack_base i t → 0 < length fs
      → Leaves (calls.ended_by e t (λ f. answer_by entries (get_or e.state.threads t nobody) f 10) (λ f. answer_by entries (get_or e.state.threads t nobody) f 11) fs) (status_after (nat_lt 1 (length fs)) r t)
      (frames.returned i (state_by e r pending devices time c) t fs)
  returned_by entries [] same base some = absurd (omega (arith, some))
  returned_by entries (f ∷ []) same base some = ended_one f base
  returned_by entries (f ∷ g ∷ fs) same base some =
      let alike : (n : ℕ) → answer_by entries (get_or e.state.threads t nobody) f n ≡ answer_by i.entries (get_or (with_statuses e.state.threads r.statuses) t nobody) f n =
      λ n. ap (λ (es : Listed). answer_by es (get_or e.state.threads t nobody) f n) same ∙ ap (λ (x : Thread). answer_by i.entries x f n) (sym (like_with e.state.threads r.statuses t Ended)) in
      rw (two_more (length fs), alike 10, alike 11) (ended_more f (g ∷ fs) (answer_by i.entries (get_or (with_statuses e.state.threads r.statuses) t nobody) f 10) (answer_by i.entries (get_or (with_statuses e.state.threads r.statuses) t nobody) f 11) base)

  -- the end with a value
  valued_by : (value : ℕ) (fs : List Frame) → (area_at e t).stack ≡ stack_base i t → 0 < length fs
      → Leaves (calls.ended_by e t (λ f. plain value) (λ f. plain 0) fs) (status_after (nat_lt 1 (length fs)) r t)
      (frames.ended_with i (state_by e r pending devices time c) t value fs)
  valued_by value [] base some = absurd (omega (arith, some))
  valued_by value (f ∷ []) base some = ended_one f base
  valued_by value (f ∷ g ∷ fs) base some = rw (two_more (length fs)) (ended_more f (g ∷ fs) (plain value) (plain 0) base)

  -- ---- where its error handler was entered, or not

  -- a property of a choice and of another that goes by the same
  either : (P : Bool → State → Type 0) (b d : Bool) (u v : State) → b ≡ d → (d ≡ true → P true u) → (d ≡ false → P false v) → P b (cond d u v)
  either P true true u v same yes_case no_case = yes_case refl
  either P false false u v same yes_case no_case = no_case refl
  either P true false u v same yes_case no_case = absurd cc
  either P false true u v same yes_case no_case = absurd cc

  value_alike : handler_value (get_or e.state.threads t nobody) ≡ handler_value (get_or (with_statuses e.state.threads r.statuses) t nobody)
  value_alike = ap (λ (x : Thread). handler_value x) (sym (like_with e.state.threads r.statuses t Ended))

  return_by : (entries : Listed) (fs : List Frame) → entries ≡ i.entries → (area_at e t).stack ≡ stack_base i t → 0 < length fs
      → Leaves (cond (is_marked fs) (calls.ended_by e t (λ f. plain (handler_value (get_or e.state.threads t nobody))) (λ f. plain 0) fs)
      (calls.ended_by e t (λ f. answer_by entries (get_or e.state.threads t nobody) f 10) (λ f. answer_by entries (get_or e.state.threads t nobody) f 11) fs)) (status_after (nat_lt 1 (length fs)) r t)
      (return_taken i (state_by e r pending devices time c) t fs)
  return_by entries [] same base some = absurd (omega (arith, some))
  return_by entries (f ∷ fs) same base some =
      either (λ b z. Leaves (cond b (calls.ended_by e t (λ g. plain (handler_value (get_or e.state.threads t nobody))) (λ g. plain 0) (f ∷ fs))
      (calls.ended_by e t (λ g. answer_by entries (get_or e.state.threads t nobody) g 10) (λ g. answer_by entries (get_or e.state.threads t nobody) g 11) (f ∷ fs))) (status_after (nat_lt 1 (length (f ∷ fs))) r t) z)
      f.handling f.handling
      (frames.ended_with i (state_by e r pending devices time c) t (handler_value (get_or (with_statuses e.state.threads r.statuses) t nobody)) (f ∷ fs))
      (frames.returned i (state_by e r pending devices time c) t (f ∷ fs)) refl
      (λ is. subst (λ n. Leaves (calls.ended_by e t (λ g. plain (handler_value (get_or e.state.threads t nobody))) (λ g. plain 0) (f ∷ fs)) (status_after (nat_lt 1 (length (f ∷ fs))) r t)
      (frames.ended_with i (state_by e r pending devices time c) t n (f ∷ fs))) value_alike (valued_by (handler_value (get_or e.state.threads t nobody)) (f ∷ fs) base some))
      (λ not_. returned_by entries (f ∷ fs) same base some)

  -- a handler is entered where the written one is
  handled_alike : (f : Frame) (handler : ℕ) → handler ≡ handler_entry i f.actor → (area_at e t).stack ≡ stack_base i t
      → is_handled_by handler (area_at e t).stack (get_or e.state.threads t nobody) f ≡ is_handled i (stack_base i t) (get_or (with_statuses e.state.threads r.statuses) t nobody) f
  handled_alike f handler is base =
      ap (λ n. is_handled_by n (area_at e t).stack (get_or e.state.threads t nobody) f) is
      ∙ ap (λ n. is_handled_by (handler_entry i f.actor) n (get_or e.state.threads t nobody) f) base
      ∙ ap (λ (x : Thread). is_handled_by (handler_entry i f.actor) (stack_base i t) x f) (sym (like_with e.state.threads r.statuses t Ended))

  handler_by : (entries : Listed) (handler : ℕ) (why : words.Trap) (f : Frame) (fs : List Frame) → entries ≡ i.entries → handler ≡ handler_entry i f.actor
      → HeadStands i e t (handler_entry i f.actor) → callee_of i.entries (handler_entry i f.actor) ≡ f.actor
      → Leaves (handler_begun e entries t handler why (f ∷ fs)) r (handler_entered i (state_by e r pending devices time c) t why f fs)
  handler_by entries handler why f fs same is heads own =
      let old : Thread = get_or e.state.threads t nobody in
      let new : Thread = get_or (with_statuses e.state.threads r.statuses) t nobody in
      let whole : List Granule → List Thread → State = λ gs ts. record (state_by e r pending devices time c) { granules = gs; threads = ts } in
      let written : ℕ → Thread → List Granule = λ n x. words_written e.state.granules (record_place n (register x 2)) (record_words x why) in
      let begun : Handed → List Thread = λ h. with_statuses (set e.state.threads t (handled_by h (get_or e.state.threads t nobody) why f fs)) r.statuses in
      let made : handed_at e entries handler ≡ handed i f.actor =
      ap (λ (es : Listed). handed_at e es handler) same ∙ ap (λ n. handed_at e i.entries n) is ∙ handed_made i e t f.actor heads own in
      let there : with_statuses (set e.state.threads t (handled_by (handed i f.actor) (get_or e.state.threads t nobody) why f fs)) r.statuses
      ≡ set (with_statuses e.state.threads r.statuses) t (handled i (get_or (with_statuses e.state.threads r.statuses) t nobody) why f fs) =
      sym (changed_with (λ (x : Thread). handled_by (handed i f.actor) x why f fs) (λ x q. refl) e.state.threads r.statuses t) in
      record {
        is = ap (λ (h : Handed). whole (written e.region.ram old) (begun h)) made
            ∙ ap (λ n. whole (written n old) (begun (handed i f.actor))) (ram_is i e r kept)
            ∙ ap (λ (x : Thread). whole (written i.ram x) (begun (handed i f.actor))) (sym (like_with e.state.threads r.statuses t Ended))
            ∙ ap (λ (ts : List Thread). whole (written i.ram new) ts) there;
        stands = begun_kept i e r entries t handler why f fs kept;
        next = refl;
      }

  trap_by : (entries : Listed) (handler : ℕ) (why : words.Trap) (fs : List Frame) → entries ≡ i.entries → (area_at e t).stack ≡ stack_base i t → Handles i e t (actor_of fs) handler
      → 0 < length fs
      → Leaves (cond (is_handled_of e t handler fs) (handler_begun e entries t handler why fs) (calls.ended_by e t (λ f. plain UNWOUND) (λ f. plain 0) fs))
      (status_after (cond (is_handled_of e t handler fs) true (nat_lt 1 (length fs))) r t)
      (trap_taken i (state_by e r pending devices time c) t why fs)
  trap_by entries handler why [] same base handles some = absurd (omega (arith, some))
  trap_by entries handler why (f ∷ fs) same base handles some =
      either (λ b z. Leaves (cond b (handler_begun e entries t handler why (f ∷ fs)) (calls.ended_by e t (λ g. plain UNWOUND) (λ g. plain 0) (f ∷ fs)))
      (status_after (cond b true (nat_lt 1 (length (f ∷ fs)))) r t) z)
      (is_handled_by handler (area_at e t).stack (get_or e.state.threads t nobody) f) (is_handled i (stack_base i t) (get_or (with_statuses e.state.threads r.statuses) t nobody) f)
      (handler_entered i (state_by e r pending devices time c) t why f fs) (frames.unwound i (state_by e r pending devices time c) t (f ∷ fs))
      (handled_alike f handler handles.is base)
      (λ on.
      let has = (says i (state_by e r pending devices time c) t f on).some in
      handler_by entries handler why f fs same handles.is (handles.heads has) (handles.own has))
      (λ off. valued_by UNWOUND (f ∷ fs) base some)

module _ (i : Image) (entries : Listed) (e : EngineRow) (r : SchedRow) (k : DeviceStates) (pending : Bool) (time : ℕ) (c : Counts) (t : ℕ) (kept : IsKept i e r) (same : entries ≡ i.entries) where
  abbrev board : Platform
  board = record { image = i; bases = k.bases }

  abbrev here : State
  here = state_by e r pending k.states time c

  -- ---- an instruction

  -- a machine of the same image
  abbrev machine : EngineRow → DeviceStates → MachineRow
  machine x b = machine_by i x r b pending time c

  same_machine : (e' : EngineRow) (k' : DeviceStates) → (e' ≡ e) × (k' ≡ k) → machine e' k' ≡ machine e k
  same_machine e' k' h = rw (h.0, h.1) refl

  pub came : (e' : EngineRow) (k' : DeviceStates) (ran : Ran) → ExecutesAsWritten entries t time e k e' k' ran → CameTo (machine e k) (machine e' k') t ran (executed board here t)
  came e' k' ran h = record {
    is = h.comes i here r.statuses (ram_is i e r kept) same;
    board = ap (λ (bs : List ℕ). record { image = i; bases = bs }) h.bases;
    counts = refl;
    unfinished = unfinished_map ran ((e' ≡ e) × (k' ≡ k)) (machine e' k' ≡ machine e k) (same_machine e' k') h.same;
  }

  -- ---- what is left to do

  abbrev Left : EngineRow → SchedRow → State → Type 0
  Left new row x = Leaves i e r pending k.states time c t kept new row x

  -- the state, and the deed
  finishes : (actor handler : ℕ) (ran : Ran) → IsDone ran → IfUnfinished ran (Ends i e here t actor handler)
      → Left (left_after ran e entries t handler) (status_after (goes_after ran e t handler) r t) (finished board t actor here ran).0 × ((finished board t actor here ran).1 ≡ deed_by t actor ran)
  finishes actor handler (Went acted) done h = (record { is = refl; stands = kept; next = refl }, refl)
  finishes actor handler Returned done h = (
    subst (λ (fs : List Frame). Left (return_at e entries t) (status_after (nat_lt 1 (length (engine.thread e t).frames)) r t) (return_taken i here t fs)) (sym (frames_with e.state.threads r.statuses t))
        (return_by i e r pending k.states time c t kept entries (engine.thread e t).frames same h.base h.some),
    refl,
  )
  finishes actor handler (Native number) done h = absurd done
  finishes actor handler (Trapped why) done h =
      let handles : Handles i e t (actor_of (engine.thread e t).frames) handler = subst (λ n. Handles i e t n handler) (h.acts ∙ ap actor_of (frames_with e.state.threads r.statuses t)) h.handles in (
        subst (λ (fs : List Frame). Left (trap_at e entries t handler why) (status_after (goes_trapped e t handler) r t) (trap_taken i here t why fs)) (sym (frames_with e.state.threads r.statuses t))
            (trap_by i e r pending k.states time c t kept entries handler why (engine.thread e t).frames same h.base handles h.some),
        ap (λ n. deed_by t n (Trapped why)) (sym h.acts),
      )

  pub finished_so : (e'' : EngineRow) (r'' : SchedRow) (c'' : Counts) (actor handler : ℕ) (ran : Ran) (d : Option Deed) → IsDone ran → IfUnfinished ran (Ends i e here t actor handler)
      → e'' ≡ left_after ran e entries t handler → r'' ≡ status_after (goes_after ran e t handler) r t → d ≡ deed_by t actor ran → c'' ≡ with_deed c d
      → ((state_by e'' r'' pending k.states time c'', d) ≡ noted (finished board t actor here ran)) × IsKept i e'' r'' × (e''.state.next ≡ e.state.next)
  finished_so e'' r'' c'' actor handler ran d done h left status deed_is counts =
      let l = finishes actor handler ran done h in
      rw (left, status, counts, deed_is)
      (ap (λ (x : State). noted (x, deed_by t actor ran)) l.0.is ∙ ap (λ (o : Option Deed). noted ((finished board t actor here ran).0, o)) (sym l.1), l.0.stands, l.0.next)
