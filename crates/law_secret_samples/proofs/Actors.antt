-- Nobody calls: whatever events come, each thread's frames are of the compartment that it began in.
use Rattle.std.proofs.Common.{ℕ, ◌≡◌, ◌≤◌, ◌&&◌, inl, inr, false, not, List, [], ◌∷◌, length, Option, Some, None, refl, sym, ap, ◌∙◌, subst, arith}
use Rattle.law_lists.proofs.Sets.{after_set_split}
use Rattle.law_lists.proofs.Tests.{chosen}
use Rattle.ct_entry.specs.declared.acts.Act.{Act}
use Rattle.ct_entry.specs.declared.acts.Act.TheVariants.{Call, Load, Store, Allocate, Free, Trap}
use Rattle.ct_entry.specs.declared.acts.Deed.{Deed}
use Rattle.def_words.specs.declared.Cap.{Cap}
use Rattle.def_sched.specs.Picks.{pick}
use Rattle.def_machine.specs.Platform.{Platform}
use Rattle.def_machine.specs.State.{State, Thread, Frame, nobody, thread}
use Rattle.def_machine.specs.Threads.{picked, statuses_of}
use Rattle.def_confined.specs.Keeps.{Keeps}
use Rattle.def_confined.specs.Licensed.{IsLicensed}
use Rattle.def_image.specs.Sound.{Sound}
use Rattle.def_boot.specs.Boot.{image_of, platform_of}
use Rattle.def_step.specs.declared.Event.{Event}
use Rattle.def_step.specs.Events.{happens, one_more_step, picked_as, picked_from, preempted, preempted_from}
use Rattle.def_step.specs.Instructions.{actor_of}
use Rattle.def_safety.specs.Each.{ready}
use Rattle.def_integrity.specs.Threads.{FramesFaded, FramesGo, ThreadTouched, as_before, by_call, by_handler, by_end, by_own_step, by_wake, by_tick, by_sweep}
use Rattle.def_truly.specs.Changes.{IsCallAct, TellsSuchBy}
use Rattle.law_boot.proofs.Holding.{holds}
use Rattle.law_boot.proofs.Whole.{partitioned}
use Rattle.law_boot.proofs.Wiring.{wired}
use Rattle.law_events.proofs.Events.{deed_licensed}
use Rattle.law_integrity.proofs.Frames.{own_frames}
use Rattle.law_integrity.proofs.ThreadEvents.{ready_thread, threads_kept}
use Rattle.law_truly.proofs.Changes.{tells_all}
use Rattle.law_secret_samples.specs.Walls.{walls}
use Rattle.law_secret_samples.proofs.Rows.{no_call}

-- frames of one compartment
abbrev pub AreOf : ℕ → List Frame → Type 0
AreOf d [] = Unit {0}
AreOf d (f ∷ fs) = (f.actor ≡ d) × AreOf d fs

-- the compartment that acts in them, where there is one
pub actor_is : (d : ℕ) (fs : List Frame) → (fs ≡ [] → ⊥) → AreOf d fs → actor_of fs ≡ d
actor_is d [] some h = absurd (some refl)
actor_is d (f ∷ fs) some h = h.0

-- compartment 0 acts where none does
pub first_acts : (fs : List Frame) → AreOf 0 fs → actor_of fs ≡ 0
first_acts [] h = refl
first_acts (f ∷ fs) h = h.0

faded_of : (P : Cap → Cap → Type 0) (d : ℕ) (fs hs : List Frame) → FramesFaded P fs hs → AreOf d fs → AreOf d hs
faded_of P d [] [] faded h = tt
faded_of P d (f ∷ fs) (g ∷ gs) faded h = (faded.0.actor ∙ h.0, faded_of P d fs gs faded.1 h.1)
faded_of P d [] (g ∷ gs) faded h = absurd faded
faded_of P d (f ∷ fs) [] faded h = absurd faded

-- a pick filters registers, and no frame
pub ready_of : (b : Platform) (s : State) (d u : ℕ) → AreOf d (thread s u).frames → AreOf d (thread (ready b s) u).frames
ready_of b s d u h = at_pick (preempted (one_more_step s)) (preempted (one_more_step s)).running (stopped s.running)
  where
    stopped : (o : Option ℕ) → AreOf d (thread (preempted_from (one_more_step s) o) u).frames
    stopped None = h
    stopped (Some t) = chosen (λ (z : State). AreOf d (thread z u).frames) (s.pending && not (thread s t).posture.off) (record (one_more_step s) { running = None; pending = false }) (one_more_step s) (λ is. h) (λ not. h)

    at_choice : (z : State) (o : Option ℕ) → AreOf d (thread z u).frames → AreOf d (thread (picked_as b z o) u).frames
    at_choice z None k = k
    at_choice z (Some t) k = after_set_split (λ (x : Thread). AreOf d x.frames) z.threads t u (picked b.image z (thread z t)) nobody
        (λ is. subst (λ n. AreOf d (thread z n).frames) (sym is) k)
        (λ is none. tt)
        (λ other. k)

    at_pick : (z : State) (o : Option ℕ) → AreOf d (thread z u).frames → AreOf d (thread (picked_from b z o) u).frames
    at_pick z None k = at_choice z (pick b.image.priorities (statuses_of z.threads) z.picks) k
    at_pick z (Some t) k = k

module _ (n : ℕ) (sound : Sound (walls n)) where
  abbrev b : Platform
  b = platform_of (walls n)

  called_not : (d : Deed) (a : Act) → IsLicensed (image_of (walls n)).entries d a → IsCallAct a → ⊥
  called_not d (Call export) h told = no_call n d.entry h.0
  called_not d (Load address width value) h told = told
  called_not d (Store address width value) h told = told
  called_not d (Allocate number base size live) h told = told
  called_not d (Free number base size live) h told = told
  called_not d (Trap cause code register) h told = told

  told_not : (z : State) (e : Event) (u : ℕ) → Keeps (image_of (walls n)) z → (o : Option Deed) → (happens b z e).1.deed ≡ o → TellsSuchBy u IsCallAct o → ⊥
  told_not z e u k None is told = told
  told_not z e u k (Some d) is told = called_not d d.act (deed_licensed b z e d (partitioned (walls n) sound) (holds (walls n) sound) (wired (walls n) sound) k is) told.1

  pub frames_of : (z : State) (e : Event) (u d : ℕ) → Keeps (image_of (walls n)) z → AreOf d (thread z u).frames → AreOf d (thread (happens b z e).0 u).frames
  frames_of z e u d k h = by (threads_kept b z e (partitioned (walls n) sound) k u)
    where
      few : length (thread (happens b z e).0 u).frames ≤ length (thread z u).frames
      few = elim ((tells_all b z e k).frames u) [ inl less ↦ less | inr told ↦ absurd (told_not z e u k (happens b z e).1.deed refl told) ]

      go : FramesGo (thread z u).frames (thread (happens b z e).0 u).frames → AreOf d (thread (happens b z e).0 u).frames
      go (as_before is) = subst (λ (fs : List Frame). AreOf d fs) (sym is) h
      go (by_call g is) = absurd (let more = ap (λ (fs : List Frame). length fs) is in omega (arith, few, more))
      go (by_handler f fs old new) = subst (λ (gs : List Frame). AreOf d gs) (sym new) (subst (λ (gs : List Frame). AreOf d gs) old h)
      go (by_end f fs old new) = subst (λ (gs : List Frame). AreOf d gs) (sym new) (subst (λ (gs : List Frame). AreOf d gs) old h).1

      by : ThreadTouched b z e u → AreOf d (thread (happens b z e).0 u).frames
      by (as_before is) = subst (λ (x : Thread). AreOf d x.frames) (sym is) h
      by (by_own_step is runs frames) = go frames
      by (by_wake is woken) = elim (ready_thread b z u) [
        | inl same ↦ subst (λ (x : Thread). AreOf d x.frames) (sym woken.new_is) (subst (λ (x : Thread). AreOf d x.frames) (sym same) h)
        | inr runs ↦ go (own_frames b z e u is runs)
      ]
      by (by_tick is new) = subst (λ (x : Thread). AreOf d x.frames) (sym new) h
      by (by_sweep is faded keeps) = faded_of _ d (thread z u).frames (thread (happens b z e).0 u).frames faded.frames h
