-- What a routine comes to that takes a quota in c10 stands: an allocation, and what remains.
use Rattle.std.proofs.Common.{ℕ, ◌≡◌, ◌-◌, ◌+◌, ◌==◌, true, inr, List, ◌∷◌, Some, refl, sym, ap, ◌∙◌, subst, arith, if◌then◌else◌}
use Rattle.std.proofs.lemmas.Bool.{eqb-true, and_parts}
use Rattle.law_lists.proofs.Tests.{chosen}
use Rattle.ct_entry.specs.declared.acts.Act.{Act}
use Rattle.ct_entry.specs.declared.acts.Act.TheVariants as acts
use Rattle.ct_entry.specs.declared.rows.Kind.TheVariants as kind
use Rattle.def_words.specs.Authority.{cap_address}
use Rattle.def_words.specs.Capability.{integer}
use Rattle.def_words.specs.Seals.{cap_seal}
use Rattle.def_reach.specs.Roots.{Listing}
use Rattle.def_machine.specs.Image.{Image, root}
use Rattle.def_machine.specs.State.{State, Frame, Object, thread, register}
use Rattle.def_machine.specs.Objects.{charges}
use Rattle.def_machine.specs.Heap.{length_for, object_cap, new_object, with_object}
use Rattle.def_confined.specs.Capabilities.{Rooted}
use Rattle.def_confined.specs.Changes.{NewObject}
use Rattle.def_confined.specs.Keeps.{Keeps}
use Rattle.def_confined.specs.Licensed.{Licensed}
use Rattle.def_confined.specs.Partitioned.{Partitioned}
use Rattle.def_confined.specs.Facts.{Facts}
use Rattle.def_step.specs.Instructions.{actor_of, deed_told}
use Rattle.def_step.specs.Switch.{return_checks}
use Rattle.def_step.specs.Routines.{Ran, answers, tells, code}
use Rattle.def_step.specs.Quotas.{Allocation, Refused, Made, allocation, is_quota_cap, by_quota, quota_in, allocated, allocate, remaining}
use Rattle.law_moves.proofs.Moves.{untagged_puts}
use Rattle.law_moves.proofs.JumpsMoves.{in_rooted}
use Rattle.law_moves.proofs.Authorities.{headed}
use Rattle.law_moves.proofs.Deeds.{allocate_licensed}
use Rattle.law_moves.proofs.Allocates.{add_object_confined, object_puts}
use Rattle.law_moves.proofs.Makes.{object_made}
use Rattle.law_moves.proofs.Found.{place_found}
use Rattle.law_moves.proofs.Objects.{object_beside}
use Rattle.law_routines.proofs.Places as places
use Rattle.law_routines.proofs.Objects.{made_says}
use Rattle.def_events.specs.Stands.{RoutineKeeps}
use Rattle.law_events.proofs.Answering.{Returning, return_says, return_tells, checked_stands, answers_keeps}
use Rattle.law_events.proofs.Handing.{long_enough}

-- the running thread's c1 is a return sentry, and its c10 a quota
pub record Charging (i : Image) (s : State) (t : ℕ) : Type 0 where
  pub returning : Returning i s t
  pub tagged : (register (thread s t) 10).tag ≡ true
  pub quota : (root i (quota_in s t)).origin ≡ Listing kind.Quota

quota_is : (i : Image) (s : State) (t : ℕ) → Facts i → Keeps i s → (register (thread s t) 10).tag ≡ true → cap_seal (register (thread s t) 10) ≡ 10 → (root i (quota_in s t)).origin ≡ Listing kind.Quota
quota_is i s t facts k tagged sealed =
    let here : Rooted i (register (thread s t) 10) = in_rooted i s.objects t (thread s t).frames (register (thread s t) 10) (k.confined.registers t 10) tagged in
    facts.quotas (quota_in s t) (sym (here.boot (inr (inr (inr (inr sealed))))).seal ∙ sealed)

pub quota_stands : (i : Image) (s : State) (t : ℕ) (ran : Ran) → Partitioned i → Facts i → Keeps i s → s.running ≡ Some t → (Charging i s t → RoutineKeeps i s t ran) → RoutineKeeps i s t (by_quota s t ran)
quota_stands i s t ran parts facts k runs h = checked_stands i s t (return_checks (register (thread s t) 1)) (if is_quota_cap (register (thread s t) 10) then ran else tells s t (code 1)) (return_tells (register (thread s t) 1)) (λ none.
    let says = return_says (register (thread s t) 1) none in
    let returning : Returning i s t = record { parts = parts; keeps = k; runs = runs; tagged = says.tagged; sealed = says.sealed } in
    chosen (RoutineKeeps i s t) (is_quota_cap (register (thread s t) 10)) ran (tells s t (code 1))
    (λ is.
    let both = and_parts (register (thread s t) 10).tag (cap_seal (register (thread s t) 10) == 10) is in
    h (record { returning = returning; tagged = both.0; quota = quota_is i s t facts k both.0 (eqb-true (cap_seal (register (thread s t) 10)) 10 both.1) }))
    (λ not. (answers_keeps i s t (code 1) returning (untagged_puts i s t (code 1) refl), tt)))

-- a deed of the quota's, where it is licensed of the innermost frame
pub quota_licensed : (i : Image) (s : State) (t quota : ℕ) (act : ℕ → Act) → Charging i s t → quota ≡ quota_in s t
    → ((f : Frame) (fs : List Frame) → (thread s t).frames ≡ f ∷ fs → Licensed i.entries (record { thread = t; actor = f.actor; entry = quota_in s t; act = act (quota_in s t) })) → Licensed i.entries (deed_told s t (quota, act quota))
quota_licensed i s t quota act c same h =
    let head = headed i s.objects t (thread s t).frames (register (thread s t) 10) (c.returning.keeps.confined.registers t 10) c.tagged in
    let P : List Frame → Type 0 = λ fs. Licensed i.entries (record { thread = t; actor = actor_of fs; entry = quota_in s t; act = act (quota_in s t) }) in
    let Q : ℕ → Type 0 = λ q. Licensed i.entries (deed_told s t (q, act q)) in
    subst Q (sym same) (subst P (sym head.1.1) (h head.0 head.1.0 head.1.1))

-- ---- an allocation

made_keeps : (i : Image) (s : State) (t size : ℕ) (o : Object) → Charging i s t → allocation i s (quota_in s t) size ≡ Made o → Keeps i (answers (with_object s o) t (object_cap o))
made_keeps i s t size o c is =
    let parts = c.returning.parts in
    let k = c.returning.keeps in
    let m = made_says i s (quota_in s t) size o is in
    let some = long_enough size m.some in
    let place = places.place_found i s.objects (length_for size) m.base some m.place in
    let limit = m.limit in
    let new : NewObject i s (new_object s (quota_in s t) size m.base) = place_found i s (quota_in s t) size m.base k.confined place.fits (omega (arith, limit)) in
    let P : Object → Type 0 = λ z. Keeps i (answers (with_object s z) t (object_cap z)) in
    subst P (sym m.is) (answers_keeps i (with_object s (new_object s (quota_in s t) size m.base)) t (object_cap (new_object s (quota_in s t) size m.base))
    (record {
      parts = parts;
      keeps = record { confined = add_object_confined i s (new_object s (quota_in s t) size m.base) parts k.confined new; beside = object_beside i s (new_object s (quota_in s t) size m.base) new k.beside };
      runs = c.returning.runs;
      tagged = c.returning.tagged;
      sealed = c.returning.sealed;
    })
    (object_puts i s t (new_object s (quota_in s t) size m.base) (object_cap (new_object s (quota_in s t) size m.base)) parts k.confined new c.tagged refl c.quota
    (λ there. object_made i (s.next + 1) (new_object s (quota_in s t) size m.base) parts c.quota new.fits some there)))

pub allocated_stands : (i : Image) (s : State) (t size : ℕ) (a : Allocation) → Charging i s t → allocation i s (quota_in s t) size ≡ a → RoutineKeeps i s t (allocated s t a)
allocated_stands i s t size (Refused n) c is = (answers_keeps i s t (code n) c.returning (untagged_puts i s t (code n) refl), tt)
allocated_stands i s t size (Made o) c is =
    let after = made_keeps i s t size o c is in
    let m = made_says i s (quota_in s t) size o is in (
      after,
      quota_licensed i s t o.quota (λ q. acts.Allocate o.number o.base o.length (charges q (with_object s o).objects)) c (ap (λ (z : Object). z.quota) m.is)
          (λ f fs frames. allocate_licensed i s (answers (with_object s o) t (object_cap o)) t 10 o.number o.base o.length f fs c.returning.keeps.confined after.confined frames c.tagged c.quota),
    )

pub allocate_stands : (i : Image) (s : State) (t : ℕ) → Partitioned i → Facts i → Keeps i s → s.running ≡ Some t → RoutineKeeps i s t (allocate i s t)
allocate_stands i s t parts facts k runs =
    quota_stands i s t (allocated s t (allocation i s (quota_in s t) (cap_address (register (thread s t) 11)))) parts facts k runs
    (λ c. allocated_stands i s t (cap_address (register (thread s t) 11)) (allocation i s (quota_in s t) (cap_address (register (thread s t) 11))) c refl)

-- ---- what remains

pub remaining_stands : (i : Image) (s : State) (t : ℕ) → Partitioned i → Facts i → Keeps i s → s.running ≡ Some t → RoutineKeeps i s t (remaining i s t)
remaining_stands i s t parts facts k runs =
    quota_stands i s t (tells s t (integer ((root i (quota_in s t)).limit - charges (quota_in s t) s.objects))) parts facts k runs
    (λ c. (answers_keeps i s t (integer ((root i (quota_in s t)).limit - charges (quota_in s t) s.objects)) c.returning (untagged_puts i s t (integer ((root i (quota_in s t)).limit - charges (quota_in s t) s.objects)) refl), tt))
