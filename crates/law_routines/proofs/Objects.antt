-- The object of an allocation, and the object that a free finds.
use Rattle.std.proofs.Common.{ℕ, ◌≡◌, ◌+◌, ◌-◌, ◌==◌, ◌≤◌, ◌&&◌, ◌||◌, Bool, true, false, inl, inr, nat_lt, List, [], ◌∷◌, Option, Some, None, refl, sym, ap, subst, if◌then◌else◌}
use Rattle.std.specs.Prelude.{find}
use Rattle.std.proofs.lemmas.Bool.{eqb-true, eqb-false, ltb-false, and_parts, or_parts}
use Rattle.law_lists.proofs.Tests.{chosen}
use Rattle.def_words.specs.declared.Cap.{Cap}
use Rattle.def_words.specs.Authority.{cap_base, cap_top}
use Rattle.def_words.specs.Seals.{is_unsealed}
use Rattle.def_machine.specs.Image.{Image, root}
use Rattle.def_machine.specs.State.{State, Object}
use Rattle.def_machine.specs.Objects.{Any, charges}
use Rattle.def_machine.specs.Heap.{length_for, charge_for, place_of, new_object}
use Rattle.def_step.specs.Quotas.{Allocation, Refused, Made, at_place, allocation, is_whole, whole_of}

-- ---- an allocation

pub record Makes (i : Image) (s : State) (quota size : ℕ) (r : Object) : Type 0 where
  pub base : ℕ
  pub is : r ≡ new_object s quota size base
  pub some : size ≡ 0 → ⊥
  pub limit : charges quota s.objects + charge_for size ≤ (root i quota).limit
  pub place : place_of i s.objects (length_for size) ≡ Some base

abbrev made_by : Object → Allocation → Object
made_by r (Refused n) = r
made_by r (Made q) = q

abbrev is_made : Allocation → Bool
is_made (Refused n) = false
is_made (Made q) = true

not_made : (n : ℕ) (r : Object) → Refused n ≡ Made r → ⊥
not_made n r e = let clash : false ≡ true = ap is_made e in cc

pub made_says : (i : Image) (s : State) (quota size : ℕ) (r : Object) → allocation i s quota size ≡ Made r → Makes i s quota size r
made_says i s quota size r = chosen (λ (a : Allocation). a ≡ Made r → Makes i s quota size r) ((size == 0) || nat_lt (i.heap_end - i.heap_base) size) (Refused 4) (if nat_lt (root i quota).limit (charges quota s.objects + charge_for size) then Refused 2 else at_place s quota size (place_of i s.objects (length_for size)))
    (λ is e. absurd (not_made 4 r e))
    (λ sized. chosen (λ (a : Allocation). a ≡ Made r → Makes i s quota size r) (nat_lt (root i quota).limit (charges quota s.objects + charge_for size)) (Refused 2) (at_place s quota size (place_of i s.objects (length_for size)))
    (λ is e. absurd (not_made 2 r e))
    (λ within e. at (place_of i s.objects (length_for size)) refl
    (eqb-false size 0 (or_parts (size == 0) (nat_lt (i.heap_end - i.heap_base) size) sized).0)
    (ltb-false (root i quota).limit (charges quota s.objects + charge_for size) within)
    e))
  where
    at : (o : Option ℕ) → place_of i s.objects (length_for size) ≡ o → (size ≡ 0 → ⊥) → charges quota s.objects + charge_for size ≤ (root i quota).limit → at_place s quota size o ≡ Made r → Makes i s quota size r
    at None is some limit e = absurd (not_made _ r e)
    at (Some base) is some limit e = record { base = base; is = sym (ap (made_by r) e); some = some; limit = limit; place = is }

-- ---- a free

pub record Found (quota : ℕ) (c : Cap) (objects : List Object) (r : Object) : Type 0 where
  pub there : Any (λ q. q ≡ r) objects
  pub live : r.live ≡ true
  pub charged : r.quota ≡ quota

found : (quota : ℕ) (c : Cap) (objects : List Object) (r : Object) → find (is_whole quota c) objects ≡ Some r → Found quota c objects r
found quota c [] r e = absurd (let clash : None ≡ Some r = e in cc)
found quota c (q ∷ qs) r e = chosen (λ (o : Option Object). o ≡ Some r → Found quota c (q ∷ qs) r) (is_whole quota c q) (Some q) (find (is_whole quota c) qs)
    (λ is same.
    let one : q ≡ r = cc in
    let first = and_parts (q.live && (q.quota == quota) && (q.base == cap_base c)) (q.base + q.length == cap_top c) is in
    let second = and_parts (q.live && (q.quota == quota)) (q.base == cap_base c) first.0 in
    let third = and_parts q.live (q.quota == quota) second.0 in
    record { there = inl one; live = subst (λ (z : Object). z.live ≡ true) one third.0; charged = subst (λ (z : Object). z.quota ≡ quota) one (eqb-true q.quota quota third.1) })
    (λ not later. let rest = found quota c qs r later in record { there = inr rest.there; live = rest.live; charged = rest.charged })
    e

pub whole_found : (objects : List Object) (quota : ℕ) (c : Cap) (r : Object) → whole_of objects quota c ≡ Some r → Found quota c objects r
whole_found objects quota c r e = chosen (λ (o : Option Object). o ≡ Some r → Found quota c objects r) (c.tag && is_unsealed c) (find (is_whole quota c) objects) None
    (λ is one. found quota c objects r one)
    (λ not none. absurd (let clash : None ≡ Some r = none in cc))
    e
