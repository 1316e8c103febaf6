-- Every event by which no other thread carries on is secret.
use Rattle.std.proofs.Common.{ℕ, zero, suc, ◌≡◌, ◌==◌, ◌&&◌, ◌⊎◌, inl, inr, true, false, cond, not, List, [], ◌∷◌, length, Option, Some, None, Result, Ok, Err, refl, sym, ap, ◌∙◌, subst, slice_set}
use Rattle.std.proofs.Math.ListN.{get_or}
use Rattle.std.proofs.lemmas.Bool.{eqb-false}
use Rattle.law_lists.proofs.Tests.{bool_tells, chosen}
use Rattle.ct_entry.specs.declared.acts.Deed.{Deed}
use Rattle.ct_entry.specs.declared.acts.Happened.{Happened}
use Rattle.ct_entry.specs.declared.acts.Owned.{Owned}
use Rattle.def_words.specs.declared.Trap.{Trap}
use Rattle.def_sched.specs.Picks.{pick}
use Rattle.def_machine.specs.Frames.{returned, ended_with}
use Rattle.def_machine.specs.Image.{Image}
use Rattle.def_machine.specs.Platform.{Platform}
use Rattle.def_machine.specs.State.{State, Thread, Frame, nobody, thread, granule}
use Rattle.def_machine.specs.Threads.{statuses_of}
use Rattle.def_confined.specs.Confined.{Confined}
use Rattle.def_confined.specs.Partitioned.{Partitioned}
use Rattle.def_hidden.specs.Hidden.{Blank}
use Rattle.def_step.specs.declared.Event.{Event}
use Rattle.def_step.specs.declared.Event.TheVariants.{Step, Tick, Sweep, Input}
use Rattle.def_step.specs.Events.{begun, begun_since, continued, holder, holder_by, is_holder, noted, one_more_step, picked_as, picked_from, preempted, preempted_from, received, stepped, swept_on, ticked}
use Rattle.def_step.specs.Instructions.{Effect, actor_of, executed}
use Rattle.def_safety.specs.Each.{ready}
use Rattle.def_safety.specs.Wired.{Wired}
use Rattle.def_secrecy.specs.Agreeing.{Agree}
use Rattle.def_secrecy.specs.Secrecy.{EventSecret, NoOtherRuns, Secret, StaysIn}
use Rattle.law_routines.proofs.Stepping.{IfDone, carried, executed_left}
use Rattle.law_events.proofs.BlankEvents.{ready_blank}
use Rattle.law_events.proofs.Events.{ready_kept}
use Rattle.law_secrecy.proofs.Puts.{same_actor_of}
use Rattle.law_secrecy.proofs.Steps.{step_secret}
use Rattle.law_secrecy.proofs.Sweeps.{swept_holder, swept_on_agree}
use Rattle.law_secrecy.proofs.Turns.{counted_agree, ready_agree, received_agree, ticked_agree, ticked_holds}
use Rattle.law_secrecy.proofs.Views.{marks_same}

-- ---- a span that begins

is_itself : (m n : ℕ) → ((m == m) && (n == n)) ≡ true
is_itself m n = elim (bool_tells (m == m)) [
  | inl one ↦ elim (bool_tells (n == n)) [ inl two ↦ rw (one, two) refl | inr not ↦ absurd (eqb-false n n not refl) ]
  | inr not ↦ absurd (eqb-false m m not refl)
]

-- the same begins in both, where its actor is the same, or where it had begun before
begun_two : (h : Option (ℕ × ℕ)) (after other : State) (o : Option (ℕ × ℕ)) → ((p : ℕ × ℕ) → o ≡ Some p → (actor_of (thread after p.0).frames ≡ actor_of (thread other p.0).frames) ⊎ (h ≡ Some p)) → begun_since h after o ≡ begun_since h other o
begun_two h after other None so = refl
begun_two h after other (Some p) so = elim (so p refl) [
  | inl actor ↦ ap (λ (a : ℕ). cond (is_holder h p.0 p.1) None (Some (record { thread = p.0; actor = a; export = p.1 }))) actor
  | inr before ↦ subst (λ g. begun_since g after (Some p) ≡ begun_since g other (Some p)) (sym before)
      (chosen (λ (x : Option Owned). x ≡ begun_since (Some p) other (Some p)) ((p.0 == p.0) && (p.1 == p.1)) None (Some (record { thread = p.0; actor = actor_of (thread after p.0).frames; export = p.1 }))
      (λ is. chosen (λ (y : Option Owned). None ≡ y) ((p.0 == p.0) && (p.1 == p.1)) None (Some (record { thread = p.0; actor = actor_of (thread other p.0).frames; export = p.1 })) (λ a. refl) (λ not. absurd (let clash : true ≡ false = sym is ∙ not in cc)))
      (λ not. absurd (let clash : true ≡ false = sym (is_itself p.0 p.1) ∙ not in cc)))
]

holder_runs : (s : State) (p : ℕ × ℕ) → holder s ≡ Some p → s.running ≡ Some p.0
holder_runs s p = by s.running
  where
    by : (o : Option ℕ) → holder_by s o ≡ Some p → o ≡ Some p.0
    by None e = absurd (let clash : None ≡ Some p = e in cc)
    by (Some u) e = chosen (λ (x : Option (ℕ × ℕ)). x ≡ Some p → Some u ≡ Some p.0) (thread s u).posture.off (Some (u, (thread s u).posture.source)) None
        (λ off is. let same : (u, (thread s u).posture.source) ≡ p = cc in ap (λ (q : ℕ × ℕ). Some q.0) same)
        (λ on is. absurd (let clash : None ≡ Some p = is in cc))
        e

-- ---- a step leaves the same thread running, or none

abbrev Rests : State → State → Type 0
Rests s z = (u : ℕ) → z.running ≡ Some u → s.running ≡ Some u

ended_rests : (i : Image) (s : State) (t value : ℕ) (fs : List Frame) → Rests s (ended_with i s t value fs)
ended_rests i s t value [] u e = e
ended_rests i s t value (f ∷ []) u e = absurd (let clash : None ≡ Some u = e in cc)
ended_rests i s t value (f ∷ g ∷ fs) u e = e

returned_rests : (i : Image) (s : State) (t : ℕ) (fs : List Frame) → Rests s (returned i s t fs)
returned_rests i s t [] u e = e
returned_rests i s t (f ∷ []) u e = absurd (let clash : None ≡ Some u = e in cc)
returned_rests i s t (f ∷ g ∷ fs) u e = e

done_rests : (s : State) (t : ℕ) (r : Result Effect Trap) → IfDone (Rests s) s t r
done_rests s t (Err why) = tt
done_rests s t (Ok d) = λ u e. e

executed_rests : (b : Platform) (s : State) (t : ℕ) → Rests s (executed b s t).0
executed_rests b s t = executed_left (Rests s) b s t (record {
  handles = λ why f fs frames is u e. e;
  ends = λ value. ended_rests b.image s t value (thread s t).frames;
  back = λ unmarked. returned_rests b.image s t (thread s t).frames;
  done = λ k. done_rests s t (carried b s t k);
  moves = record {
    tells = λ n u e. e;
    enters = λ high u e. e;
    stops = λ status u e. absurd (let clash : None ≡ Some u = e in cc);
    wakes = λ address most u e. e;
    hands = λ size r is u e. e;
    gives = λ r c is u e. e;
    seals = λ size key r is k u e. e;
    opens = λ key r is u e. e;
  };
})

continued_rests : (b : Platform) (s : State) (o : Option ℕ) → Rests s (continued b s o).0
continued_rests b s None u e = e
continued_rests b s (Some t) u e = executed_rests b s t u e

-- ---- a turn leaves frames

kept_by_set : (ts : List Thread) (v : ℕ) (x : Thread) (t : ℕ) → x.frames ≡ (get_or ts v nobody).frames → (get_or (slice_set ts v x) t nobody).frames ≡ (get_or ts t nobody).frames
kept_by_set [] v x t e = refl
kept_by_set (y ∷ ys) zero x zero e = e
kept_by_set (y ∷ ys) zero x (suc t) e = refl
kept_by_set (y ∷ ys) (suc v) x zero e = refl
kept_by_set (y ∷ ys) (suc v) x (suc t) e = kept_by_set ys v x t e

ready_frames : (b : Platform) (s : State) (t : ℕ) → (thread (ready b s) t).frames ≡ (thread s t).frames
ready_frames b s t = turned (preempted (one_more_step s)) (preempted (one_more_step s)).running ∙ stopped s.running
  where
    stopped : (o : Option ℕ) → (thread (preempted_from (one_more_step s) o) t).frames ≡ (thread s t).frames
    stopped None = refl
    stopped (Some u) = chosen (λ (a : State). (thread a t).frames ≡ (thread s t).frames) (s.pending && not (thread s u).posture.off) (record (one_more_step s) { running = None; pending = false }) (one_more_step s) (λ is. refl) (λ on. refl)

    chose : (a : State) (o : Option ℕ) → (thread (picked_as b a o) t).frames ≡ (thread a t).frames
    chose a None = refl
    chose a (Some u) = kept_by_set a.threads u _ t refl

    turned : (a : State) (o : Option ℕ) → (thread (picked_from b a o) t).frames ≡ (thread a t).frames
    turned a (Some u) = refl
    turned a None = chose a (pick b.image.priorities (statuses_of a.threads) a.picks)

-- ---- an event

abbrev happened : Option Deed → Option Owned → Happened
happened d o = record { deed = d; off = o }

module _ (b : Platform) (s z : State) (t : ℕ) (parts : Partitioned b.image) (wired : Wired b) (one : Confined b.image s) (two : Confined b.image z) (zeros : Blank b.image s) (zeros_too : Blank b.image z) (agree : Agree b t s z) where
  -- what is told where the deed is the same, and the states that are left agree
  told_same : (r q : State × Option Deed) → r.1 ≡ q.1 → Agree b t r.0 q.0 → ((p : ℕ × ℕ) → holder r.0 ≡ Some p → (p.0 ≡ t) ⊎ (holder s ≡ Some p)) → happened r.1 (begun s r.0) ≡ happened q.1 (begun z q.0)
  told_same r q deed after so =
      let actors : (p : ℕ × ℕ) → holder r.0 ≡ Some p → (actor_of (thread r.0 p.0).frames ≡ actor_of (thread q.0 p.0).frames) ⊎ (holder s ≡ Some p) =
      λ p is. elim (so p is) [ inl own ↦ inl (subst (λ n. actor_of (thread r.0 n).frames ≡ actor_of (thread q.0 n).frames) (sym own) (same_actor_of b r.0 q.0 t after)) | inr before ↦ inr before ] in
      let spans : begun s r.0 ≡ begun z q.0 = begun_two (holder s) r.0 q.0 (holder r.0) actors ∙ ap (λ h. begun_since h q.0 (holder r.0)) agree.public.holder ∙ ap (λ o. begun_since (holder z) q.0 o) after.public.holder in
      ap (λ (d : Option Deed). happened d (begun s r.0)) deed ∙ ap (λ (o : Option Owned). happened q.1 o) spans

  marks : (k : ℕ) → (granule s k).mark ≡ (granule z k).mark
  marks = marks_same b.image s z one two agree.public.objects

  -- what no thread's step is tells no deed
  quiet : (x y : State) → Agree b t x y → ((p : ℕ × ℕ) → holder x ≡ Some p → holder s ≡ Some p) → happened None (begun s x) ≡ happened None (begun z y)
  quiet x y after so = told_same (x, None) (y, None) refl after (λ p is. inr (so p is))

  -- ---- a step

  abbrev Pair : State × Option Deed → State × Option Deed → Type 0
  Pair r q = (r.1 ≡ q.1) × (StaysIn s r.0 t → Agree b t r.0 q.0)

  module _ (only : (u : ℕ) → (ready b s).running ≡ Some u → u ≡ t) where
    readied : Agree b t (ready b s) (ready b z)
    readied = ready_agree b t s z marks agree only

    carried_on : (ready b s).running ≡ Some t → Pair (noted (executed b (ready b s) t)) (noted (executed b (ready b z) t))
    carried_on runs =
        let secret : Secret b (ready b s) (ready b z) t = step_secret b (ready b s) (ready b z) t parts wired (ready_kept b s parts one).confined (ready_kept b z parts two).confined (ready_blank b s zeros) (ready_blank b z zeros_too) runs readied in (
          secret.deed,
          λ stays. counted_agree b t (executed b (ready b s) t).0 (executed b (ready b z) t).0 (secret.view (stays ∙ ap (λ (fs : List Frame). length fs) (sym (ready_frames b s t)))) _ _,
        )

    continued_pair : (o p : Option ℕ) → (ready b s).running ≡ o → o ≡ p → Pair (continued b (ready b s) o) (continued b (ready b z) p)
    continued_pair None None e same = (refl, λ stays. readied)
    continued_pair (Some u) (Some v) e same =
        let heads : u ≡ v = cc in
        subst (λ w. Pair (continued b (ready b s) (Some u)) (continued b (ready b z) (Some w))) heads
        (subst (λ w. Pair (continued b (ready b s) (Some w)) (continued b (ready b z) (Some w))) (sym (only u e)) (carried_on (e ∙ ap (λ w. Some w) (only u e))))
    continued_pair None (Some v) e same = absurd (let clash : None ≡ Some v = same in cc)
    continued_pair (Some u) None e same = absurd (let clash : Some u ≡ None = same in cc)

    stepped_pair : Pair (stepped b s) (stepped b z)
    stepped_pair = continued_pair (ready b s).running (ready b z).running refl readied.public.running

    -- a span that begins is the thread's own
    stepped_holds : (p : ℕ × ℕ) → holder (stepped b s).0 ≡ Some p → (p.0 ≡ t) ⊎ (holder s ≡ Some p)
    stepped_holds p is = inl (only p.0 (continued_rests b (ready b s) (ready b s).running p.0 (holder_runs (stepped b s).0 p is)))

  -- ---- whole

  pub event_secret : (e : Event) → NoOtherRuns b s t e → EventSecret b s z t e
  event_secret Step only =
      let pair = stepped_pair only in
      record { deed = pair.0; happening = λ stays. told_same (stepped b s) (stepped b z) pair.0 (pair.1 stays) (stepped_holds only); view = pair.1 }
  event_secret Tick only =
      let after = ticked_agree b t s z agree in
      record { deed = refl; happening = λ stays. quiet (ticked s) (ticked z) after (ticked_holds s); view = λ stays. after }
  event_secret Sweep only =
      let after = swept_on_agree b t s z marks agree in
      record { deed = refl; happening = λ stays. quiet (swept_on b s) (swept_on b z) after (λ p is. sym (swept_holder b s) ∙ is); view = λ stays. after }
  event_secret (Input n byte) only =
      let after = received_agree b t s z agree n byte in
      record { deed = refl; happening = λ stays. quiet (received s n byte) (received z n byte) after (λ p is. is); view = λ stays. after }
