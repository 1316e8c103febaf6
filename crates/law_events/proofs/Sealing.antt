-- What a routine of tokens comes to stands: a new object's capability is sealed, a token is opened, or freed.
use Rattle.std.proofs.Common.{ℕ, ◌≡◌, ◌+◌, ◌==◌, ◌<◌, true, false, inl, inr, Option, Some, None, refl, sym, ap, ◌∙◌, subst, arith}
use Rattle.std.proofs.lemmas.Bool.{eqb-true}
use Rattle.law_lists.proofs.Tests.{chosen, bool_tells}
use Rattle.ct_entry.specs.declared.acts.Act.TheVariants as acts
use Rattle.def_profile.specs.declared.seals.TheConstants.{TOKEN_TYPE}
use Rattle.def_words.specs.declared.Cap.{Cap}
use Rattle.def_words.specs.Authority.{cap_address}
use Rattle.def_words.specs.Capability.{cap_of, word_sealed}
use Rattle.def_words.specs.Permissions.{has, bit, execute, cap_perms}
use Rattle.def_words.specs.Seals.{cap_seal, seal_type}
use Rattle.law_words.proofs.Narrowing.{shadow_kept, narrows_of, within_same}
use Rattle.law_words.proofs.Sealed.{WithField, with_field}
use Rattle.def_machine.specs.Image.{Image}
use Rattle.def_machine.specs.State.{State, Object, thread, register}
use Rattle.def_machine.specs.Objects.{charges}
use Rattle.def_machine.specs.Heap.{length_for, object_cap, new_object, with_object}
use Rattle.def_confined.specs.Changes.{NewObject, Puts}
use Rattle.def_confined.specs.Keeps.{Keeps}
use Rattle.def_confined.specs.Partitioned.{Partitioned}
use Rattle.def_confined.specs.Made.{Derived, IsObjectCap}
use Rattle.def_confined.specs.Facts.{Facts}
use Rattle.def_step.specs.Switch.{return_checks}
use Rattle.def_step.specs.Routines.{Ran, answers, tells, code}
use Rattle.def_step.specs.Quotas.{Allocation, Refused, Made, allocation, quota_in, gives_back}
use Rattle.def_step.specs.Tokens.{with_row, sealed_token, opened_token, key_of, token_object, made_token, by_key, opens, frees_token, token_key, token_new, token_open, token_free}
use Rattle.law_moves.proofs.Moves.{untagged_puts, same_puts, derived_puts}
use Rattle.law_moves.proofs.Allocates.{add_object_confined, object_puts}
use Rattle.law_moves.proofs.Deeds.{allocate_licensed}
use Rattle.law_moves.proofs.Makes.{object_made}
use Rattle.law_moves.proofs.Found.{place_found}
use Rattle.law_moves.proofs.Objects.{object_beside}
use Rattle.law_routines.proofs.Places as places
use Rattle.law_routines.proofs.Objects.{made_says}
use Rattle.law_routines.proofs.Tokens.{token_says, token_found}
use Rattle.def_events.specs.Stands.{RoutineKeeps}
use Rattle.law_events.proofs.Answering.{Returning, return_says, return_tells, checked_stands, answers_keeps}
use Rattle.law_events.proofs.Charging.{Charging, quota_stands, quota_licensed}
use Rattle.law_events.proofs.Freeing.{tokens_keeps, given_stands}
use Rattle.law_events.proofs.Handing.{long_enough}

-- ---- the seal field alone changes

-- a capability with another seal field
abbrev with_seal : Cap → ℕ → Cap
with_seal c field = cap_of c.tag (word_sealed c field) c.shadow

opened_derived : (c : Cap) → c.tag ≡ true → cap_seal c ≡ TOKEN_TYPE → Derived c (opened_token c)
opened_derived c tagged token = λ there.
    let w : WithField c (opened_token c) 0 = with_field c (opened_token c) 0 (omega arith) refl in
    record {
      narrows = narrows_of c (opened_token c) tagged (shadow_kept c.tag (word_sealed c 0) c.shadow tagged) w.bounds (within_same (cap_perms (opened_token c)) (cap_perms c) w.rights);
      seal = inl (inr (omega (arith, token)), inl w.kind);
    }

pub object_not_code : (i : Image) (r : Object) (c : Cap) → IsObjectCap i r c → has c execute ≡ false
unfolding bit
object_not_code i r c o = elim (bool_tells (has c execute)) [
  | inl is ↦ absurd (let clash : true ≡ false = sym (o.rooted.heap_rights o.heap execute is) in cc)
  | inr not ↦ not
]

sealed_derived : (i : Image) (r : Object) (c : Cap) → (c.tag ≡ true → IsObjectCap i r c) → Derived c (with_seal c 3)
sealed_derived i r c made = λ tagged.
    let o = made tagged in
    let w : WithField c (with_seal c 3) 3 = with_field c (with_seal c 3) 3 (omega arith) refl in
    let kind : cap_seal (with_seal c 3) ≡ 11 = w.kind ∙ ap (λ b. seal_type b 3) (object_not_code i r c o) in
    record {
      narrows = narrows_of c (with_seal c 3) tagged (shadow_kept c.tag (word_sealed c 3) c.shadow tagged) w.bounds (within_same (cap_perms (with_seal c 3)) (cap_perms c) w.rights);
      seal = inl (inl o.unsealed, inr (omega (arith, kind)));
    }

-- ---- a key, or a token

sealed_new : (i : Image) (s : State) (t size base : ℕ) (key : Option ℕ) → Charging i s t → NewObject i s (new_object s (quota_in s t) size base) → 0 < length_for size
    → Keeps i (answers (with_object (with_row s (new_object s (quota_in s t) size base) key) (new_object s (quota_in s t) size base)) t (sealed_token (new_object s (quota_in s t) size base)))
sealed_new i s t size base key c new some =
    let parts = c.returning.parts in
    let k = c.returning.keeps in
    let r : Object = new_object s (quota_in s t) size base in
    let added : Keeps i (with_object s r) = record { confined = add_object_confined i s r parts k.confined new; beside = object_beside i s r new k.beside } in
    let rowed : Keeps i (with_object (with_row s r key) r) = tokens_keeps i (with_object s r) (with_row s r key).tokens added in
    let made : (object_cap r).tag ≡ true → IsObjectCap i r (object_cap r) = λ there. object_made i (s.next + 1) r parts c.quota new.fits some there in
    let puts : Puts i (with_object s r) t (sealed_token r) =
    derived_puts i (with_object s r) t (object_cap r) (sealed_token r) (sealed_derived i r (object_cap r) made) (object_puts i s t r (object_cap r) parts k.confined new c.tagged refl c.quota made) in
    answers_keeps i (with_object (with_row s r key) r) t (sealed_token r)
    (record { parts = parts; keeps = rowed; runs = c.returning.runs; tagged = c.returning.tagged; sealed = c.returning.sealed })
    (record { there = puts.there; kept = puts.kept; live = puts.live })

sealed_keeps : (i : Image) (s : State) (t size : ℕ) (key : Option ℕ) (o : Object) → Charging i s t → allocation i s (quota_in s t) size ≡ Made o → Keeps i (answers (with_object (with_row s o key) o) t (sealed_token o))
sealed_keeps i s t size key o c is =
    let k = c.returning.keeps in
    let m = made_says i s (quota_in s t) size o is in
    let some = long_enough size m.some in
    let place = places.place_found i s.objects (length_for size) m.base some m.place in
    let limit = m.limit in
    let new : NewObject i s (new_object s (quota_in s t) size m.base) = place_found i s (quota_in s t) size m.base k.confined place.fits (omega (arith, limit)) in
    let P : Object → Type 0 = λ z. Keeps i (answers (with_object (with_row s z key) z) t (sealed_token z)) in
    subst P (sym m.is) (sealed_new i s t size m.base key c new some)

made_stands : (i : Image) (s : State) (t size : ℕ) (key : Option ℕ) (a : Allocation) → Charging i s t → allocation i s (quota_in s t) size ≡ a → RoutineKeeps i s t (made_token s t key a)
made_stands i s t size key (Refused n) c is = (answers_keeps i s t (code n) c.returning (untagged_puts i s t (code n) refl), tt)
made_stands i s t size key (Made o) c is =
    let after = sealed_keeps i s t size key o c is in
    let m = made_says i s (quota_in s t) size o is in (
      after,
      quota_licensed i s t o.quota (λ q. acts.Allocate o.number o.base o.length (charges q (with_object s o).objects)) c (ap (λ (z : Object). z.quota) m.is)
          (λ f fs frames. allocate_licensed i s (answers (with_object (with_row s o key) o) t (sealed_token o)) t 10 o.number o.base o.length f fs c.returning.keeps.confined after.confined frames c.tagged c.quota),
    )

-- what comes by a key stands where what comes does
key_stands : (i : Image) (s : State) (t : ℕ) (o : Option Object) (ran : ℕ → Ran) → Returning i s t → ((key : ℕ) → RoutineKeeps i s t (ran key)) → RoutineKeeps i s t (by_key s t o ran)
key_stands i s t None ran r h = (answers_keeps i s t (code 7) r (untagged_puts i s t (code 7) refl), tt)
key_stands i s t (Some k) ran r h = h k.number

pub token_key_stands : (i : Image) (s : State) (t : ℕ) → Partitioned i → Facts i → Keeps i s → s.running ≡ Some t → RoutineKeeps i s t (token_key i s t)
token_key_stands i s t parts facts k runs = quota_stands i s t (made_token s t None (allocation i s (quota_in s t) 8)) parts facts k runs
    (λ c. made_stands i s t 8 None (allocation i s (quota_in s t) 8) c refl)

pub token_new_stands : (i : Image) (s : State) (t : ℕ) → Partitioned i → Facts i → Keeps i s → s.running ≡ Some t → RoutineKeeps i s t (token_new i s t)
token_new_stands i s t parts facts k runs =
    let size : ℕ = cap_address (register (thread s t) 11) in
    quota_stands i s t (by_key s t (key_of s (register (thread s t) 12)) (λ key. made_token s t (Some key) (allocation i s (quota_in s t) size))) parts facts k runs
    (λ c. key_stands i s t (key_of s (register (thread s t) 12)) (λ key. made_token s t (Some key) (allocation i s (quota_in s t) size)) c.returning
    (λ key. made_stands i s t size (Some key) (allocation i s (quota_in s t) size) c refl))

-- ---- a token is opened

opened_stands : (i : Image) (s : State) (t key : ℕ) (o : Option Object) → Returning i s t → token_object s key (register (thread s t) 11) ≡ o → RoutineKeeps i s t (opens s t (register (thread s t) 11) o)
opened_stands i s t key None r is = (answers_keeps i s t (code 8) r (untagged_puts i s t (code 8) refl), tt)
opened_stands i s t key (Some o) r is =
    let token = token_says s key (register (thread s t) 11) o is in (
      answers_keeps i s t (opened_token (register (thread s t) 11)) r
          (derived_puts i s t (register (thread s t) 11) (opened_token (register (thread s t) 11)) (opened_derived (register (thread s t) 11) token.sealed.tagged token.sealed.type)
          (same_puts i s t 11 r.keeps.confined r.runs)),
      tt,
    )

pub token_open_stands : (i : Image) (s : State) (t : ℕ) → Partitioned i → Keeps i s → s.running ≡ Some t → RoutineKeeps i s t (token_open s t)
token_open_stands i s t parts k runs =
    let ran : ℕ → Ran = λ key. opens s t (register (thread s t) 11) (token_object s key (register (thread s t) 11)) in
    checked_stands i s t (return_checks (register (thread s t) 1)) (by_key s t (key_of s (register (thread s t) 10)) ran) (return_tells (register (thread s t) 1)) (λ none.
    let says = return_says (register (thread s t) 1) none in
    let r : Returning i s t = record { parts = parts; keeps = k; runs = runs; tagged = says.tagged; sealed = says.sealed } in
    key_stands i s t (key_of s (register (thread s t) 10)) ran r (λ key. opened_stands i s t key (token_object s key (register (thread s t) 11)) r refl))

-- ---- a token is freed

gone_stands : (i : Image) (s : State) (t key : ℕ) (o : Option Object) → Charging i s t → token_object s key (register (thread s t) 12) ≡ o → RoutineKeeps i s t (frees_token i s t (quota_in s t) o)
gone_stands i s t key None c is = (answers_keeps i s t (code 8) c.returning (untagged_puts i s t (code 8) refl), tt)
gone_stands i s t key (Some r) c is = chosen (RoutineKeeps i s t) (r.quota == quota_in s t) (gives_back i s t r) (tells s t (code 6))
    (λ same. given_stands i s t r (register (thread s t) 12) c (token_found s key (register (thread s t) 12) r (quota_in s t) is (eqb-true r.quota (quota_in s t) same)))
    (λ other. (answers_keeps i s t (code 6) c.returning (untagged_puts i s t (code 6) refl), tt))

pub token_free_stands : (i : Image) (s : State) (t : ℕ) → Partitioned i → Facts i → Keeps i s → s.running ≡ Some t → RoutineKeeps i s t (token_free i s t)
token_free_stands i s t parts facts k runs =
    let ran : ℕ → Ran = λ key. frees_token i s t (quota_in s t) (token_object s key (register (thread s t) 12)) in
    quota_stands i s t (by_key s t (key_of s (register (thread s t) 11)) ran) parts facts k runs
    (λ c. key_stands i s t (key_of s (register (thread s t) 11)) ran c.returning (λ key. gone_stands i s t key (token_object s key (register (thread s t) 12)) c refl))
