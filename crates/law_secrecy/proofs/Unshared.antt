-- A step of a thread that is apart as the report has it is one by which others act, away from what a thread sees.
use Rattle.std.proofs.Common.{ℕ, ◌≡◌, ◌<◌, inl, inr, List, Option, Some, None, sym, ap, subst}
use Rattle.def_machine.specs.Image.{root}
use Rattle.def_machine.specs.Objects.{Any}
use Rattle.def_machine.specs.Platform.{Platform}
use Rattle.def_machine.specs.State.{State, Thread, Object, thread}
use Rattle.def_confined.specs.Confined.{Confined}
use Rattle.def_confined.specs.Facts.{Facts}
use Rattle.def_confined.specs.Partitioned.{Partitioned}
use Rattle.def_step.specs.declared.Event.TheVariants.{Step}
use Rattle.def_step.specs.Events.{continued, happens}
use Rattle.def_step.specs.Instructions.{actor_of, executed}
use Rattle.def_safety.specs.Each.{ready}
use Rattle.def_safety.specs.Wired.{Wired}
use Rattle.def_secrecy.specs.View.{ReadsObject, Sees, SeesDevice}
use Rattle.def_secrecy.specs.Others.{ApartInReport, MayAccess, MayCharge, OutOfReach, SeesAlike, StepsAway, ViewStays}
use Rattle.law_events.proofs.Events.{ready_kept}
use Rattle.law_secrecy.proofs.Apart.{out_of_reach}
use Rattle.law_secrecy.proofs.Others.{Turned, event_stays, ready_turned}
use Rattle.law_secrecy.proofs.Owning.{executed_same}
use Rattle.law_secrecy.proofs.Shapes.{sees_shaped}

module _ (b : Platform) (s : State) (t u : ℕ) (parts : Partitioned b.image) (facts : Facts b.image) (wired : Wired b) (held : Confined b.image s) (runs : (ready b s).running ≡ Some u) (differ : t ≡ u → ⊥)
    (apart : ApartInReport b.image t (actor_of (thread (ready b s) t).frames) u (actor_of (thread (ready b s) u).frames)) (devices : (m : ℕ) → SeesDevice b (thread (ready b s) t).frames m → MayAccess b (thread (ready b s) u).frames m → ⊥) where
  turned : Turned s (ready b s) t
  turned = ready_turned b t u differ s runs

  held_then : Confined b.image (ready b s)
  held_then = (ready_kept b s parts held).confined

  out : OutOfReach b (ready b s) t u
  out = out_of_reach b (ready b s) t u parts facts held_then differ apart devices

  stays : ViewStays b t s (happens b s Step).0
  stays = event_stays b s t u parts wired held runs differ out

  -- ---- objects

  abbrev own : ℕ
  own = actor_of (thread s t).frames

  abbrev reads : ℕ → List Object → Type 0
  reads x objects = Any (ReadsObject b.image own x) objects

  abbrev Same : State → Type 0
  Same a = (x : ℕ) → (reads x s.objects → reads x a.objects) × (reads x a.objects → reads x s.objects)

  no_quota : (q : ℕ) → 0 < (root b.image q).limit → MayCharge b.image own q → MayCharge b.image (actor_of (thread (ready b s) u).frames) q → ⊥
  no_quota q limit may other = apart.quotas q limit (subst (λ a. MayCharge b.image a q) (ap (λ (y : Thread). actor_of y.frames) (sym turned.thread_is)) may) other

  carried_same : Same (executed b (ready b s) u).0
  carried_same = subst (λ os. (x : ℕ) → (reads x os → reads x (executed b (ready b s) u).0.objects) × (reads x (executed b (ready b s) u).0.objects → reads x os)) turned.objects (executed_same b (ready b s) u own held_then runs no_quota)

  continued_same : (o : Option ℕ) → o ≡ Some u → Same (continued b (ready b s) o).0
  continued_same None e = absurd (let clash : None ≡ Some u = e in cc)
  continued_same (Some v) e = (let is : v ≡ u = cc in subst (λ w. Same (continued b (ready b s) (Some w)).0) (sym is) carried_same)

  event_same : Same (happens b s Step).0
  event_same = continued_same (ready b s).running runs

  -- ---- whole

  more : (objects others : List Object) (x : ℕ) → (reads x objects → reads x others) → Sees b.image objects t (thread s t).frames x → Sees b.image others t (thread s t).frames x
  more objects others x so (inl entry) = inl entry
  more objects others x so (inr (inl object)) = inr (inl (so object))
  more objects others x so (inr (inr run)) = inr (inr run)

  alike : SeesAlike b t s (happens b s Step).0
  alike x =
      let after : State = (happens b s Step).0 in (
        λ seen. sees_shaped b.image after.objects t (thread s t).frames (thread after t).frames x stays.self.frames (more s.objects after.objects x (event_same x).0 seen),
        λ seen. more after.objects s.objects x (event_same x).1 (sees_shaped b.image after.objects t (thread after t).frames (thread s t).frames x (sym stays.self.frames) seen),
      )

  pub steps_away : StepsAway b t s
  steps_away = record { other = u; runs = runs; is_other = differ; away = out; alike = alike }
