-- A thread that runs has a frame, after every event.
use Rattle.std.proofs.Common.{ℕ, zero, suc, ◌≡◌, ◌&&◌, true, false, not, List, [], ◌∷◌, length, Bool, Option, Some, None, Result, Ok, Err, refl, sym, ap, ◌∙◌, subst, slice_set}
use Rattle.std.specs.Prelude.{find}
use Rattle.std.specs.List.{list_all}
use Rattle.std.proofs.Math.ListN.{get_or}
use Rattle.law_lists.proofs.Sets.{after_set_at}
use Rattle.law_lists.proofs.Tests.{chosen, both_left}
use Rattle.ct_entry.specs.declared.acts.Deed.{Deed}
use Rattle.def_profile.specs.declared.answers.TheConstants.{UNWOUND}
use Rattle.def_words.specs.declared.Cap.{Cap}
use Rattle.def_words.specs.declared.Trap.{Trap}
use Rattle.def_sched.specs.declared.Status.{Status}
use Rattle.def_sched.specs.declared.Status.TheVariants.{Ended}
use Rattle.def_sched.specs.Picks.{pick, is_foremost, gives_way}
use Rattle.def_sched.specs.Statuses.{is_ready, status_of}
use Rattle.def_machine.specs.Platform.{Platform}
use Rattle.def_machine.specs.Image.{Image}
use Rattle.def_machine.specs.State.{State, Thread, Frame, nobody, thread}
use Rattle.def_machine.specs.Threads.{statuses_of, picked}
use Rattle.def_machine.specs.Frames.{returned, ended_with}
use Rattle.def_confined.specs.Holding.{EndsFit}
use Rattle.def_confined.specs.Keeps.{Keeps}
use Rattle.def_step.specs.declared.Event.{Event}
use Rattle.def_step.specs.declared.Event.TheVariants.{Step, Tick, Sweep, Input}
use Rattle.def_step.specs.Events.{preempted_from, preempted, picked_as, picked_from, one_more_step, continued, happens}
use Rattle.def_step.specs.Instructions.{Effect, executed, operand}
use Rattle.def_step.specs.Operands.{operands_of}
use Rattle.def_step.specs.Quotas.{let_go}
use Rattle.def_safety.specs.Each.{ready}
use Rattle.def_events.specs.Running.{RunsFramed}
use Rattle.law_routines.proofs.Stepping.{carried}
use Rattle.law_truly.proofs.Cases.{executed_case}
use Rattle.law_truly.proofs.Same.{Calm}
use Rattle.law_truly.proofs.Changes.{status_frames, step_changes, tick_calm, sweep_calm, input_calm}
use Rattle.law_events.proofs.Waiting.{status_at}
use Rattle.law_history.proofs.Routines.{IfEffect, Both}

pub innermost : (fs : List Frame) → (fs ≡ [] → ⊥) → (f : Frame) × (gs : List Frame) × (fs ≡ f ∷ gs)
innermost [] h = absurd (h refl)
innermost (f ∷ fs) h = (f, fs, refl)

-- ---- the thread that is picked

found_holds : (p : ℕ → Bool) (xs : List ℕ) (x : ℕ) → find p xs ≡ Some x → p x ≡ true
found_holds p [] x e = absurd (let clash : None ≡ Some x = e in cc)
found_holds p (y ∷ ys) x e = chosen (λ (o : Option ℕ). o ≡ Some x → p x ≡ true) (p y) (Some y) (find p ys)
    (λ is same. (let one : y ≡ x = cc in subst (λ n. p n ≡ true) one is))
    (λ not later. found_holds p ys x later)
    e

ended_idle : (x : Status) → is_ready x ≡ true → x ≡ Ended → ⊥
ended_idle x e is = (let clash : false ≡ true = sym (ap is_ready is) ∙ e in cc)

-- it is ready, so it hasn't ended
pick_framed : (priorities : List ℕ) (z : State) (t : ℕ) → EndsFit z → pick priorities (statuses_of z.threads) z.picks ≡ Some t → (thread z t).frames ≡ [] → ⊥
pick_framed priorities z t ends is none =
    let foremost = found_holds (is_foremost priorities (statuses_of z.threads) z.picks) z.picks t is in
    let ready_now = both_left (is_ready (status_of (statuses_of z.threads) t)) (list_all (gives_way priorities (statuses_of z.threads) t) z.picks) foremost in
    ended_idle (status_of (statuses_of z.threads) t) ready_now (status_at z.threads t ∙ ((ends t).none none).0)

pub ready_framed : (b : Platform) (s : State) → Keeps b.image s → RunsFramed s → RunsFramed (ready b s)
ready_framed b s k framed = at_pick (preempted (one_more_step s)) (preempted (one_more_step s)).running refl (stopped_ends (one_more_step s).running) (stopped (one_more_step s).running)
  where
    at_choice : (z : State) (o : Option ℕ) → pick b.image.priorities (statuses_of z.threads) z.picks ≡ o → z.running ≡ None → EndsFit z → RunsFramed (picked_as b z o)
    at_choice z None is idle ends t runs e = (let clash : None ≡ Some t = sym idle ∙ runs in cc)
    at_choice z (Some u) is idle ends t runs e =
        let same : u ≡ t = cc in
        let old : (thread z t).frames ≡ [] = after_set_at (λ n (x : Thread). x.frames ≡ [] → (thread z n).frames ≡ []) z.threads u t (picked b.image z (thread z u)) nobody (λ none. none) (λ none. none) e in
        pick_framed b.image.priorities z u ends is (subst (λ n. (thread z n).frames ≡ []) (sym same) old)

    at_pick : (z : State) (o : Option ℕ) → z.running ≡ o → EndsFit z → RunsFramed z → RunsFramed (picked_from b z o)
    at_pick z None idle ends h = at_choice z (pick b.image.priorities (statuses_of z.threads) z.picks) refl idle ends
    at_pick z (Some t) runs ends h = h

    stopped_ends : (o : Option ℕ) → EndsFit (preempted_from (one_more_step s) o)
    stopped_ends None = k.beside.ends
    stopped_ends (Some t) = chosen EndsFit ((one_more_step s).pending && not (thread (one_more_step s) t).posture.off) (record (one_more_step s) { running = None; pending = false }) (one_more_step s)
        (λ is. k.beside.ends)
        (λ not. k.beside.ends)

    stopped : (o : Option ℕ) → RunsFramed (preempted_from (one_more_step s) o)
    stopped None = framed
    stopped (Some t) = chosen RunsFramed ((one_more_step s).pending && not (thread (one_more_step s) t).posture.off) (record (one_more_step s) { running = None; pending = false }) (one_more_step s)
        (λ is u runs e. (let clash : None ≡ Some u = runs in cc))
        (λ not. framed)

-- ---- a step

module _ (b : Platform) (s : State) (t : ℕ) where
  -- where it runs on without frames it had none
  abbrev Stays : State → Option Deed → Type 0
  Stays z told = z.running ≡ Some t → (thread z t).frames ≡ [] → (thread s t).frames ≡ []

  put : (ts : List Thread) (new : Thread) → (new.frames ≡ [] → (thread s t).frames ≡ []) → ((get_or ts t nobody).frames ≡ [] → (thread s t).frames ≡ []) → (get_or (slice_set ts t new) t nobody).frames ≡ [] → (thread s t).frames ≡ []
  put ts new h old = after_set_at (λ n (x : Thread). x.frames ≡ [] → (thread s t).frames ≡ []) ts t t new nobody h old

  one : (new : Thread) → (new.frames ≡ [] → (thread s t).frames ≡ []) → (get_or (slice_set s.threads t new) t nobody).frames ≡ [] → (thread s t).frames ≡ []
  one new h = put s.threads new h (λ e. e)

  some_frames : {G : Type 0} (f : Frame) (fs : List Frame) → (f ∷ fs) ≡ [] → G
  some_frames f fs e = absurd (let clash : (f ∷ fs) ≡ [] = e in cc)

  none_runs : {G : Type 0} → None ≡ Some t → G
  none_runs e = absurd (let clash : None ≡ Some t = e in cc)

  ended_stays : (i : Image) (value : ℕ) (told : Option Deed) (fs : List Frame) → Stays (ended_with i s t value fs) told
  ended_stays i value told [] runs e = e
  ended_stays i value told (f ∷ []) runs e = none_runs runs
  ended_stays i value told (f ∷ g ∷ gs) runs e = one _ (some_frames g gs) e

  returned_stays : (i : Image) (fs : List Frame) → Stays (returned i s t fs) None
  returned_stays i [] runs e = e
  returned_stays i (f ∷ []) runs e = none_runs runs
  returned_stays i (f ∷ g ∷ gs) runs e = one _ (some_frames g gs) e

  done_stays : (x : Cap) (r : Result Effect Trap) → IfEffect Stays s t x r
  done_stays x (Err why) = tt
  done_stays x (Ok d) = λ runs. one _ (λ e. e)

  executed_stays : Both Stays (executed b s t)
  executed_stays = executed_case Stays b s t (record {
    handles = λ why f fs frames runs. one _ (some_frames (record f { handling = true }) fs);
    unwinds = λ why. ended_stays b.image UNWOUND None (thread s t).frames;
    ends = λ value. ended_stays b.image value None (thread s t).frames;
    back = returned_stays b.image (thread s t).frames;
    done = λ fetched k stands. done_stays (operand s t (operands_of k).first) (carried b s t k);
    routines = λ fetched. record {
      tells = λ n runs. one _ (λ e. e);
      enters = λ at none runs. one _ (some_frames _ _);
      stops = λ status. none_runs;
      wakes = λ address most runs e. one _ (λ e. e) (sym (status_frames _ _ t) ∙ e);
      hands = λ at back q r is runs. one _ (λ e. e);
      gives = λ at back q r c found runs. put (let_go b.image s t r).threads _ (one _ (λ e. e)) (one _ (λ e. e));
      seals = λ size asked back q key r is runs. one _ (λ e. e);
      opens = λ runs. one _ (λ e. e);
    };
  })

continued_framed : (b : Platform) (z : State) (o : Option ℕ) → z.running ≡ o → RunsFramed z → ((u : ℕ) → (continued b z o).0.running ≡ Some u → z.running ≡ Some u) → RunsFramed (continued b z o).0
continued_framed b z None is framed before u runs e = framed u runs e
continued_framed b z (Some t) is framed before u runs e =
    let was : z.running ≡ Some u = before u runs in
    let same : t ≡ u = (let both : Some t ≡ Some u = sym is ∙ was in cc) in
    framed u was (subst (λ n. (executed b z t).0.running ≡ Some n → (thread (executed b z t).0 n).frames ≡ [] → (thread z n).frames ≡ []) same (executed_stays b z t) runs e)

-- ---- an event

no_frames : (fs gs : List Frame) → length gs ≡ length fs → gs ≡ [] → fs ≡ []
no_frames [] gs size e = refl
no_frames (f ∷ fs) gs size e = absurd (let clash : zero ≡ suc (length fs) = sym (ap length e) ∙ size in cc)

calm_framed : (s z : State) → Calm s z → RunsFramed s → RunsFramed z
calm_framed s z c framed t runs e = framed t (c.runs t runs) (no_frames (thread s t).frames (thread z t).frames (c.threads t).size e)

pub event_framed : (b : Platform) (s : State) (e : Event) → Keeps b.image s → RunsFramed s → RunsFramed (happens b s e).0
event_framed b s Step k framed = continued_framed b (ready b s) (ready b s).running refl (ready_framed b s k framed) (step_changes b s).runs
event_framed b s Tick k framed = calm_framed s (happens b s Tick).0 (tick_calm b s) framed
event_framed b s Sweep k framed = calm_framed s (happens b s Sweep).0 (sweep_calm b s k) framed
event_framed b s (Input n byte) k framed = calm_framed s (happens b s (Input n byte)).0 (input_calm b s n byte) framed
