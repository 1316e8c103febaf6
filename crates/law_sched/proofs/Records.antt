-- What the order of picks says of the record of picks.
use Rattle.std.proofs.Common.{◌≡◌, ℕ, suc, ◌+◌, ◌<◌, ◌≤◌, List, [], ◌∷◌, true, false, Some, inl, inr, refl, ap, sym, ◌∙◌, subst, arith, length}
use Rattle.std.proofs.Math.ListN.{get_or}
use Rattle.std.specs.List.{All, AllPairs, Contains}
use Rattle.std.proofs.lemmas.List.{get_or_default}
use Rattle.std.proofs.lemmas.List.FromFn.{length-range_with_len, get_or-range_with_len}
use Rattle.std.proofs.lemmas.List.Kept.{AllPairs-filter}
use Rattle.std.proofs.lemmas.List.Quantifiers.{all_pairs_push}
use Rattle.std.proofs.lemmas.Bool.{cases_order}
use Rattle.law_lists.proofs.Tests.{bool_tells, eq_tells}
use Rattle.law_lists.proofs.Finds.{IsFirst, find_is, find_tells}
use Rattle.def_sched.specs.declared.Status.{Status}
use Rattle.def_sched.specs.Statuses.{is_ready, status_of}
use Rattle.def_sched.specs.Picks.{IsOrder, pick, priority_of, is_foremost}
use Rattle.def_sched.specs.Records.{order_after, since, IsLongerAgo, IsFairPick}
use Rattle.law_sched.proofs.Orders.{others, left_out, starts, goes_on}
use Rattle.law_sched.proofs.Picks.{foremost_is, foremost_ready, foremost_tells}

-- the rest of a record whose picks are of so many threads
rest : (count p : ℕ) (picks : List ℕ) → All (λ t. t < count) (p ∷ picks) → All (λ t. t < count) picks
rest count p picks h = λ k d inside. h (suc k) d (omega (arith, inside))

pub order_is : (count : ℕ) (picks : List ℕ) → All (λ t. t < count) picks → IsOrder count (order_after count picks)
order_is count [] h = starts count
order_is count (p ∷ picks) h = goes_on count p (order_after count picks) (h 0 0 (omega arith)) (order_is count picks (rest count p picks h))

-- ---- how long ago

since_here : (picks : List ℕ) (p : ℕ) → since (p ∷ picks) p ≡ 0
since_here picks p = elim (eq_tells p p) [ inl same ↦ rw same.0 refl | inr apart ↦ absurd (apart.1 refl) ]

since_more : (picks : List ℕ) (p t : ℕ) → (t ≡ p → ⊥) → since (p ∷ picks) t ≡ 1 + since picks t
since_more picks p t differ = elim (eq_tells p t) [ inl same ↦ absurd (differ (sym same.1)) | inr apart ↦ rw apart.0 refl ]

later_pick : (picks : List ℕ) (p t u : ℕ) → (t ≡ p → ⊥) → (u ≡ p → ⊥) → IsLongerAgo picks t u → IsLongerAgo (p ∷ picks) t u
later_pick picks p t u t_differs u_differs h =
    let here = since_more picks p t t_differs in
    let there = since_more picks p u u_differs in
    elim h [
      | inl lt ↦ inl (omega (arith, here, there, lt))
      | inr tie ↦ inr (omega (arith, here, there, tie.0), tie.1)
    ]

last_pick : (picks : List ℕ) (p t : ℕ) → (t ≡ p → ⊥) → IsLongerAgo (p ∷ picks) t p
last_pick picks p t differs = inl (omega (arith, since_more picks p t differs, since_here picks p))

pub longer_ago : (count : ℕ) (picks : List ℕ) → AllPairs (IsLongerAgo picks) (order_after count picks)
longer_ago count [] = λ i j d lt inside.
    let size = length-range_with_len 0 count in
    let last : j < count = omega (arith, inside, size) in
    inr (refl, omega (arith, lt, get_or-range_with_len 0 count i d (omega (arith, lt, last)), get_or-range_with_len 0 count j d last))
longer_ago count (p ∷ picks) =
    let before = order_after count picks in
    let out = left_out p before in
    let old : AllPairs (IsLongerAgo picks) (others p before) = AllPairs-filter (IsLongerAgo picks) _ before (longer_ago count picks) in
    all_pairs_push (IsLongerAgo (p ∷ picks)) (others p before) p
    (λ i j d lt inside. later_pick picks p _ _ (out i d (omega (arith, lt, inside))) (out j d inside) (old i j d lt inside))
    (λ k d inside. last_pick picks p _ (out k d inside))

asymmetric : (picks : List ℕ) (t u : ℕ) → IsLongerAgo picks t u → IsLongerAgo picks u t → ⊥
asymmetric picks t u (inl a) (inl b) = omega (arith, a, b)
asymmetric picks t u (inl a) (inr b) = omega (arith, a, b.0)
asymmetric picks t u (inr a) (inl b) = omega (arith, a.0, b)
asymmetric picks t u (inr a) (inr b) = omega (arith, a.1, b.1)

-- ---- the thread that is picked

pub picked_is_fair : (count t : ℕ) (ps : List ℕ) (ss : List Status) (picks : List ℕ) → All (λ p. p < count) picks → pick ps ss (order_after count picks) ≡ Some t → IsFairPick count ps ss picks t
picked_is_fair count t ps ss picks h found =
    let order = order_after count picks in
    let is : IsOrder count order = order_is count picks h in
    let first : IsFirst (is_foremost ps ss order) order t = find_tells (is_foremost ps ss order) order t found in
    record {
      thread = subst (λ v. v < count) first.is (is.below first.place t first.inside);
      ready = foremost_ready ps ss order t first.passes;
      greatest = λ u lt ready. foremost_tells ps ss order t u first.passes (is.each u lt) ready;
      longest = λ u lt ready tie differ.
          let c : Contains order u = is.each u lt in
          let at_place : get_or order c.0 t ≡ u = get_or_default order c.0 t u c.1 ∙ c.2 in
          elim (cases_order first.place c.0) [
            | inl same ↦ absurd (differ (sym at_place ∙ ap (λ k. get_or order k t) (sym same) ∙ first.is))
            | inr (inl below) ↦
                subst (λ v. IsLongerAgo picks t v) at_place (subst (λ v. IsLongerAgo picks v (get_or order c.0 t)) first.is (longer_ago count picks first.place c.0 t below c.1))
            | inr (inr above) ↦
                let no : is_foremost ps ss order u ≡ false = subst (λ v. is_foremost ps ss order v ≡ false) at_place (first.before c.0 above) in
                let yes_too : is_foremost ps ss order u ≡ true = foremost_is ps ss order u ready (λ k d inside up. rw tie (foremost_tells ps ss order t (get_or order k d) first.passes (k, inside, get_or_default order k _ d inside) up)) in
                absurd (let bad : false ≡ true = sym no ∙ yes_too in cc)
          ];
    }

not_before : (count t : ℕ) (ps : List ℕ) (ss : List Status) (picks : List ℕ) → All (λ p. p < count) picks → IsFairPick count ps ss picks t → (c : Contains (order_after count picks) t) (k : ℕ) → k < c.0 → is_foremost ps ss (order_after count picks) (get_or (order_after count picks) k t) ≡ false
not_before count t ps ss picks h fair c k lt =
    let order = order_after count picks in
    let is : IsOrder count order = order_is count picks h in
    let u : ℕ = get_or order k t in
    let inside : k < length order = omega (arith, lt, c.1) in
    elim (bool_tells (is_foremost ps ss order u)) [
      | inr fails ↦ fails
      | inl first ↦
          let ready : is_ready (status_of ss u) ≡ true = foremost_ready ps ss order u first in
          let up : priority_of ps t ≤ priority_of ps u = foremost_tells ps ss order u t first c fair.ready in
          let down : priority_of ps u ≤ priority_of ps t = fair.greatest u (is.below k t inside) ready in
          let differ : u ≡ t → ⊥ = λ e. is.once k c.0 t lt c.1 (e ∙ sym c.2) in
          let there : IsLongerAgo picks t u = fair.longest u (is.below k t inside) ready (omega (arith, up, down)) differ in
          let back : IsLongerAgo picks u t = subst (λ v. IsLongerAgo picks u v) c.2 (longer_ago count picks k c.0 t lt c.1) in
          absurd (asymmetric picks t u there back)
    ]

pub fair_is_picked : (count t : ℕ) (ps : List ℕ) (ss : List Status) (picks : List ℕ) → All (λ p. p < count) picks → IsFairPick count ps ss picks t → pick ps ss (order_after count picks) ≡ Some t
fair_is_picked count t ps ss picks h fair =
    let order = order_after count picks in
    let is : IsOrder count order = order_is count picks h in
    let c : Contains order t = is.each t fair.thread in
    find_is (is_foremost ps ss order) order t (record {
      place = c.0;
      inside = c.1;
      is = c.2;
      passes = foremost_is ps ss order t fair.ready (λ k d inside ready. fair.greatest (get_or order k d) (is.below k d inside) ready);
      before = λ k lt. not_before count t ps ss picks h fair c k lt;
    })
