-- What a step does to the frames of the thread that carries on.
use Rattle.std.proofs.Common.{ℕ, zero, suc, ◌≡◌, ◌⊎◌, ◌&&◌, inl, inr, false, not, List, [], ◌∷◌, Option, Some, None, Result, Ok, Err, refl, sym, ap, ◌∙◌, subst, slice_set}
use Rattle.std.proofs.Math.ListN.{get_or}
use Rattle.law_lists.proofs.Sets.{after_set_split}
use Rattle.law_lists.proofs.Tests.{chosen}
use Rattle.def_sched.specs.Picks.{pick}
use Rattle.ct_entry.specs.declared.acts.Deed.{Deed}
use Rattle.def_words.specs.declared.Cap.{Cap}
use Rattle.def_words.specs.declared.Trap.{Trap}
use Rattle.def_sched.specs.declared.Status.{Status}
use Rattle.def_machine.specs.Platform.{Platform}
use Rattle.def_machine.specs.Image.{Image}
use Rattle.def_machine.specs.State.{State, Thread, Frame, nobody, thread}
use Rattle.def_machine.specs.Threads.{with_statuses, statuses_of, picked}
use Rattle.def_machine.specs.Frames.{returned, ended_with}
use Rattle.def_step.specs.declared.Event.{Event}
use Rattle.def_step.specs.declared.Event.TheVariants.{Step}
use Rattle.def_step.specs.Events.{preempted_from, preempted, picked_as, picked_from, one_more_step, continued, happens}
use Rattle.def_step.specs.Instructions.{Effect, executed, operand}
use Rattle.def_step.specs.Operands.{operands_of}
use Rattle.def_step.specs.Quotas.{let_go}
use Rattle.def_safety.specs.Each.{ready}
use Rattle.def_integrity.specs.Threads.{FramesGo, as_before, by_call, by_handler, by_end, OwnFrames}
use Rattle.law_routines.proofs.Stepping.{carried}
use Rattle.law_integrity.proofs.Cases.{executed_case}
use Rattle.law_history.proofs.Routines.{IfEffect, Both}

-- where a thread is put it is, or there is no such thread
at_own : (ts : List Thread) (t : ℕ) (new : Thread) → (get_or (slice_set ts t new) t nobody ≡ new) ⊎ (get_or (slice_set ts t new) t nobody ≡ get_or ts t nobody)
at_own [] t new = inr refl
at_own (x ∷ xs) zero new = inl refl
at_own (x ∷ xs) (suc t) new = at_own xs t new

status_frames : (ts : List Thread) (ss : List Status) (t : ℕ) → (get_or (with_statuses ts ss) t nobody).frames ≡ (get_or ts t nobody).frames
status_frames [] ss t = refl
status_frames (x ∷ xs) [] t = refl
status_frames (x ∷ xs) (y ∷ ys) zero = refl
status_frames (x ∷ xs) (y ∷ ys) (suc t) = status_frames xs ys t

module _ (b : Platform) (s : State) (t : ℕ) where
  abbrev OwnGo : State → Option Deed → Type 0
  OwnGo z told = FramesGo (thread s t).frames (thread z t).frames

  -- one thread changes
  put_go : (new : Thread) → FramesGo (thread s t).frames new.frames → FramesGo (thread s t).frames (get_or (slice_set s.threads t new) t nobody).frames
  put_go new h = elim (at_own s.threads t new) [
    | inl is ↦ subst (λ (x : Thread). FramesGo (thread s t).frames x.frames) (sym is) h
    | inr past ↦ as_before (ap (λ (x : Thread). x.frames) past)
  ]

  -- and again, with its frames as they were
  again_go : (ts : List Thread) (new : Thread) → new.frames ≡ (get_or ts t nobody).frames → FramesGo (thread s t).frames (get_or ts t nobody).frames → FramesGo (thread s t).frames (get_or (slice_set ts t new) t nobody).frames
  again_go ts new is h = elim (at_own ts t new) [
    | inl here ↦ subst (λ fs. FramesGo (thread s t).frames fs) (sym (ap (λ (x : Thread). x.frames) here ∙ is)) h
    | inr past ↦ subst (λ fs. FramesGo (thread s t).frames fs) (sym (ap (λ (x : Thread). x.frames) past)) h
  ]

  ended_go : (i : Image) (value : ℕ) (told : Option Deed) (fs : List Frame) → (thread s t).frames ≡ fs → OwnGo (ended_with i s t value fs) told
  ended_go i value told [] e = as_before refl
  ended_go i value told (f ∷ []) e = put_go nobody (by_end f [] e refl)
  ended_go i value told (f ∷ g ∷ gs) e = put_go _ (by_end f (g ∷ gs) e refl)

  returned_go : (i : Image) (fs : List Frame) → (thread s t).frames ≡ fs → OwnGo (returned i s t fs) None
  returned_go i [] e = as_before refl
  returned_go i (f ∷ []) e = put_go nobody (by_end f [] e refl)
  returned_go i (f ∷ g ∷ gs) e = put_go _ (by_end f (g ∷ gs) e refl)

  done_go : (x : Cap) (r : Result Effect Trap) → IfEffect OwnGo s t x r
  done_go x (Err why) = tt
  done_go x (Ok d) = put_go _ (as_before refl)

  pub executed_frames : Both OwnGo (executed b s t)
  executed_frames = executed_case OwnGo b s t (record {
    handles = λ why f fs frames is. put_go _ (by_handler f fs frames refl);
    ends = λ value told. ended_go b.image value told (thread s t).frames refl;
    back = returned_go b.image (thread s t).frames refl;
    done = λ fetched k stands. done_go (operand s t (operands_of k).first) (carried b s t k);
    routines = λ fetched. record {
      tells = λ n. put_go _ (as_before refl);
      enters = λ none. put_go _ (by_call _ refl);
      stops = λ status. put_go _ (as_before refl);
      wakes = λ none. subst (λ fs. FramesGo (thread s t).frames fs) (sym (status_frames _ _ t)) (put_go _ (as_before refl));
      hands = λ size o is. put_go _ (as_before refl);
      gives = λ o c found. again_go (let_go b.image s t o).threads _ refl (put_go _ (as_before refl));
      seals = λ size key o is named. put_go _ (as_before refl);
      opens = λ key o is. put_go _ (as_before refl);
    };
  })

step_frames : (b : Platform) (y : State) (t : ℕ) (o : Option ℕ) → o ≡ Some t → FramesGo (thread y t).frames (thread (continued b y o).0 t).frames
step_frames b y t None e = absurd (let clash : None ≡ Some t = e in cc)
step_frames b y t (Some u) e = (let same : t ≡ u = cc in subst (λ n. FramesGo (thread y t).frames (thread (executed b y n).0 t).frames) same (executed_frames b y t))

-- ---- before a step

-- what is preempted keeps its threads
pub stopped_threads : (z : State) (o : Option ℕ) → (preempted_from z o).threads ≡ z.threads
stopped_threads z None = refl
stopped_threads z (Some t) = chosen (λ (y : State). y.threads ≡ z.threads) (z.pending && not (thread z t).posture.off) (record z { running = None; pending = false }) z (λ is. refl) (λ not. refl)

-- a pick filters registers, and no frame
ready_frames : (b : Platform) (s : State) (t : ℕ) → (thread (ready b s) t).frames ≡ (thread s t).frames
ready_frames b s t = at_pick (preempted (one_more_step s)) (preempted (one_more_step s)).running ∙ ap (λ ts. (get_or ts t nobody).frames) (stopped_threads (one_more_step s) (one_more_step s).running)
  where
    at_choice : (z : State) (o : Option ℕ) → (thread (picked_as b z o) t).frames ≡ (thread z t).frames
    at_choice z None = refl
    at_choice z (Some u) = after_set_split (λ (x : Thread). x.frames ≡ (thread z t).frames) z.threads u t (picked b.image z (thread z u)) nobody
        (λ is. ap (λ n. (thread z n).frames) is)
        (λ is none. sym (ap (λ (x : Thread). x.frames) none))
        (λ other. refl)

    at_pick : (z : State) (o : Option ℕ) → (thread (picked_from b z o) t).frames ≡ (thread z t).frames
    at_pick z None = at_choice z (pick b.image.priorities (statuses_of z.threads) z.picks)
    at_pick z (Some u) = refl

pub own_frames : (b : Platform) (s : State) (e : Event) → OwnFrames b s e
own_frames b s e t is runs =
    subst (λ (x : Event). FramesGo (thread s t).frames (thread (happens b s x).0 t).frames) (sym is)
    (subst (λ (fs : List Frame). FramesGo fs (thread (happens b s Step).0 t).frames) (ready_frames b s t) (step_frames b (ready b s) t (ready b s).running runs))
