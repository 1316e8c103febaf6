-- What a call came to is what the written switch comes to.
use Rattle.std.proofs.Common.{ℕ, ◌≡◌, ◌∙◌, List, Some, refl, sym, ap, arith}
use Rattle.std.proofs.lemmas.List.{length-set}
use Rattle.law_granules.proofs.Lists.{zeroed_length}
use Rattle.ct_entry.specs.Listed.{Listed}
use Rattle.ct_entry.specs.declared.acts.Act.TheVariants.{Call}
use Rattle.def_native.specs.declared.TheConstants.{SWITCH}
use Rattle.def_words.specs.declared.Cap.{Cap}
use Rattle.def_sched.specs.declared.Status.{Status}
use Rattle.def_sched.specs.declared.Status.TheVariants.{Ended}
use Rattle.def_reach.specs.Roots.{compartment_of}
use Rattle.def_machine.specs.Image.{Image, root, stack_base, frames_most}
use Rattle.def_machine.specs.State as state
use Rattle.def_machine.specs.State.{State, Thread, register}
use Rattle.def_machine.specs.Frames.{callee_start, entered, switched}
use Rattle.def_step.specs.Routines as routine
use Rattle.def_step.specs.Routines.{switched_to, switch, code, tells}
use Rattle.def_step.specs.Switch.{Switched, Trapped, TooDeep, NoStack, Enters, switch_of, frame_top}
use Rattle.ct_switch.specs.declared.calls.Called.{Called}
use Rattle.ct_switch.specs.declared.calls.Called.TheVariants as called
use Rattle.ct_switch.specs.Calls.{call_outcome}
use Rattle.ct_engine.specs.Seen.{EngineRow, area_at, thread}
use Rattle.ct_engine.specs.Calls.{HeadStands, switch_at, after_call}
use Rattle.ct_engine.specs.Written.{state_with}
use Rattle.ct_engine.proofs.AsWritten.{comes_is, enters_is}
use Rattle.ct_engine.proofs.Freeing.{changed_with}
use Rattle.ct_execute.proofs.Statuses.{like_with}
use Rattle.ct_execute.specs.declared.ran.Ran.{Ran}
use Rattle.ct_execute.specs.declared.ran.Ran.TheVariants as ran
use Rattle.ct_execute.specs.Deciding.{act_by}
use Rattle.ct_services.specs.Serves.{IsServedOf, ServesAlone, HoldsCallee, HoldsRoutine}
use Rattle.ct_services.proofs.Serving.{register_alike, serves_of, serves_trapped}

-- what the code comes to and leaves, of what the call came to and left
abbrev pub Answered : Called → ℕ → EngineRow → EngineRow → Ran → Type 0
Answered (called.Entered entry export) t u new q = (new ≡ u) × (q ≡ ran.Went (Some (act_by entry (Call export))))
Answered called.TooDeep t u new q = ServesAlone u new q (λ i m. tells m t (code 12))
Answered called.NoStack t u new q = ServesAlone u new q (λ i m. tells m t (code 11))
Answered (called.Trapped why) t u new q = (new ≡ u) × (q ≡ ran.Trapped why)

module _ (s : EngineRow) (ss : List Status) (t : ℕ) (e : Listed) where
  -- the written switch comes to what the engine's does
  written_is : {w : Switched} → switch_at s e t ≡ w → (i : Image) (m : State) → HoldsRoutine s ss t e SWITCH i
      → switch i (state_with m s ss) t ≡ switched_to i (state_with m s ss) t w
  written_is is i m h =
      let callee = h.1 refl in
      ap (switched_to i (state_with m s ss) t)
      (ap (λ (u : Thread). switch_of i.entries (stack_base i t) (frame_top u.frames) (frames_most i t) u) (like_with s.state.threads ss t Ended)
      ∙ sym (comes_is i s.state s t callee.shows) ∙ ap (λ (es : Listed). switch_at s es t) (sym callee.entries) ∙ is)

  -- where it enters, the thread is the written callee's, whatever its status is
  enters_so : (i : Image) (m : State) (export high : ℕ) → HoldsCallee i s t e → HeadStands i s t export
      → switched_to i (state_with m s ss) t (Enters export high)
      ≡ routine.Leaves (state_with m (after_call s e t (Enters export high)) ss) (Some ((register (thread s t) 6).shadow.root, Call export))
  enters_so i m export high h heads =
      let here : State = state_with m s ss in
      let callee : ℕ = compartment_of (root i export).owner in
      let into : Thread → Thread = λ u. entered i u callee export high (callee_start i u t callee export high) in
      let left : State = state_with m (after_call s e t (Enters export high)) ss in
      let is : left ≡ switched i here t high (into (state.thread here t)) here.running =
      ap (λ (es : Listed). state_with m (after_call s es t (Enters export high)) ss) h.entries
      ∙ ap (λ (x : EngineRow). state_with m x ss) (enters_is i s.state s t export high h.shows heads)
      ∙ rw (changed_with into (λ u q. refl) s.state.threads ss t) refl in
      ap (λ (x : State). routine.Leaves x (Some ((register (state.thread here t) 6).shadow.root, Call export))) (sym is)
      ∙ ap (λ (c : Cap). routine.Leaves left (Some (c.shadow.root, Call export))) (sym (register_alike m s ss t 6))

  -- a call came to this, which left an engine so, and so the code did
  pub served : {q : Called} {u new : EngineRow} {r : Ran} (w : Switched) → w ≡ switch_at s e t → q ≡ call_outcome (register (thread s t) 6) w
      → u ≡ after_call s e t w → Answered q t u new r
      → IsServedOf (HoldsRoutine s ss t e SWITCH) s ss new ss r (λ i m. switch i m t)
  served (Trapped why) is told left h =
      let by = rw (told, left) at h in
      rw (by.0, by.1)
      (serves_of (serves_trapped s ss why (λ i m. routine.Traps why) (λ i m h. refl)) (λ i b. b.0) (written_is (sym is)))
  served TooDeep is told left h =
      serves_of ((rw (told, left) at h) ss) (λ i b. b.0) (written_is (sym is))
  served NoStack is told left h =
      serves_of ((rw (told, left) at h) ss) (λ i b. b.0) (written_is (sym is))
  served (Enters export high) is told left h =
      let by = rw (told, left) at h in
      rw (by.0, by.1)
      (record {
        comes = λ i m b. written_is (sym is) i m b ∙ enters_so i m export high (b.1 refl) ((b.1 refl).heads export high (sym is));
        same = tt;
        beside = record {
          same = refl;
          size = zeroed_length (area_at s t).stack high s.region.ram s.state.granules;
          threads = length-set s.state.threads t _;
        };
        made = omega arith;
        many = refl;
        ready = λ ready. ready;
      })
