-- Which thread is picked, by what holds of it.
use Rattle.std.proofs.Common.{◌≡◌, ℕ, zero, suc, ◌<◌, ◌≤◌, List, [], ◌∷◌, true, false, None, ◌⊎◌, inl, inr, refl, sym, ◌∙◌, subst, arith, length}
use Rattle.std.proofs.Math.ListN.{get_or, get_or-eq_default}
use Rattle.std.proofs.lemmas.Bool.{cases_order}
use Rattle.std.specs.List.{All, Contains, list_all}
use Rattle.std.proofs.lemmas.List.{get_or_default}
use Rattle.std.proofs.lemmas.List.Folds.{list_all_at}
use Rattle.std.proofs.lemmas.List.Sums.{AllPass-from_list_all, list_all-from_AllPass}
use Rattle.law_lists.proofs.Tests.{bool_tells, le_tells, both_left, both_right}
use Rattle.law_lists.proofs.Finds.{find_none, none_passes}
use Rattle.def_sched.specs.declared.Status.{Status}
use Rattle.def_sched.specs.declared.Status.TheVariants.{Ended}
use Rattle.def_sched.specs.Statuses.{is_ready, status_of}
use Rattle.law_sched.proofs.Orders.{contains_more}
use Rattle.def_sched.specs.Picks.{IsOrder, pick, priority_of, gives_way, is_foremost}

-- ---- to give way

pub way_given : (ps : List ℕ) (ss : List Status) (t u : ℕ) → (is_ready (status_of ss u) ≡ true → priority_of ps u ≤ priority_of ps t) → gives_way ps ss t u ≡ true
way_given ps ss t u h =
    elim (bool_tells (is_ready (status_of ss u))) [
      | inl ready ↦ elim (le_tells (priority_of ps u) (priority_of ps t)) [
        | inl low ↦ rw (ready, low.0) refl
        | inr high ↦ absurd (omega (arith, high.1, h ready))
      ]
      | inr idle ↦ rw idle refl
    ]

pub way_tells : (ps : List ℕ) (ss : List Status) (t u : ℕ) → gives_way ps ss t u ≡ true → is_ready (status_of ss u) ≡ true → priority_of ps u ≤ priority_of ps t
way_tells ps ss t u given ready =
    elim (le_tells (priority_of ps u) (priority_of ps t)) [
      | inl low ↦ low.1
      | inr high ↦ absurd (let bad : false ≡ true = rw (ready, high.0) at given in cc)
    ]

pub way_refused : (ps : List ℕ) (ss : List Status) (t u : ℕ) → is_ready (status_of ss u) ≡ true → priority_of ps t < priority_of ps u → gives_way ps ss t u ≡ false
way_refused ps ss t u ready lt =
    elim (le_tells (priority_of ps u) (priority_of ps t)) [
      | inl low ↦ absurd (omega (arith, low.1, lt))
      | inr high ↦ rw (ready, high.0) refl
    ]

-- ---- the foremost

pub foremost_is : (ps : List ℕ) (ss : List Status) (order : List ℕ) (t : ℕ)
    → is_ready (status_of ss t) ≡ true
    → ((k d : ℕ) → k < length order → is_ready (status_of ss (get_or order k d)) ≡ true → priority_of ps (get_or order k d) ≤ priority_of ps t)
    → is_foremost ps ss order t ≡ true
foremost_is ps ss order t ready h =
    rw (ready, list_all-from_AllPass (gives_way ps ss t) order (λ k d inside. way_given ps ss t (get_or order k d) (h k d inside))) refl

pub foremost_ready : (ps : List ℕ) (ss : List Status) (order : List ℕ) (t : ℕ) → is_foremost ps ss order t ≡ true → is_ready (status_of ss t) ≡ true
foremost_ready ps ss order t h = both_left _ _ h

pub foremost_tells : (ps : List ℕ) (ss : List Status) (order : List ℕ) (t u : ℕ) → is_foremost ps ss order t ≡ true → Contains order u → is_ready (status_of ss u) ≡ true → priority_of ps u ≤ priority_of ps t
foremost_tells ps ss order t u h c ready =
    let all : list_all (gives_way ps ss t) order ≡ true = both_right _ _ h in
    let given : gives_way ps ss t u ≡ true = subst (λ v. gives_way ps ss t v ≡ true) c.2 (AllPass-from_list_all (gives_way ps ss t) order all c.0 u c.1) in
    way_tells ps ss t u given ready

pub idle_is_not : (ps : List ℕ) (ss : List Status) (order : List ℕ) (t : ℕ) → is_ready (status_of ss t) ≡ false → is_foremost ps ss order t ≡ false
idle_is_not ps ss order t idle = rw idle refl

-- one that a ready one of greater priority is above isn't the foremost
pub lesser_is_not : (ps : List ℕ) (ss : List Status) (order : List ℕ) (t k : ℕ) → k < length order → is_ready (status_of ss (get_or order k 0)) ≡ true → priority_of ps t < priority_of ps (get_or order k 0) → is_foremost ps ss order t ≡ false
lesser_is_not ps ss order t k inside ready lt =
    let none : list_all (gives_way ps ss t) order ≡ false = list_all_at (gives_way ps ss t) order k 0 inside (way_refused ps ss t (get_or order k 0) ready lt) in
    elim (bool_tells (is_ready (status_of ss t))) [ inl yes_here ↦ rw (yes_here, none) refl | inr no_here ↦ rw no_here refl ]

-- ---- none is picked where none is ready

abbrev pub Idle : List Status → Type 0
Idle ss = All (λ s. is_ready s ≡ false) ss

pub none_is_picked : (ps : List ℕ) (ss : List Status) (order : List ℕ) → ((k : ℕ) → k < length order → is_ready (status_of ss (get_or order k 0)) ≡ false) → pick ps ss order ≡ None
none_is_picked ps ss order idle = find_none (is_foremost ps ss order) order 0 (λ k inside. idle_is_not ps ss order (get_or order k 0) (idle k inside))

pub idle_at : (ss : List Status) (t : ℕ) → Idle ss → is_ready (status_of ss t) ≡ false
idle_at ss t idle =
    elim (cases_order t (length ss)) [
      | inl e ↦ rw (get_or-eq_default ss Ended {n = t} (omega (arith, e))) refl
      | inr (inl lt) ↦ idle t Ended lt
      | inr (inr gt) ↦ rw (get_or-eq_default ss Ended {n = t} (omega (arith, gt))) refl
    ]

pub idle_all : (ss : List Status) (order : List ℕ) → IsOrder (length ss) order → ((k : ℕ) → k < length order → is_ready (status_of ss (get_or order k 0)) ≡ false) → Idle ss
idle_all ss order is idle =
    λ t d inside.
    let c : Contains order t = is.each t inside in
    let here : get_or order c.0 0 ≡ t = get_or_default order c.0 0 t c.1 ∙ c.2 in
    rw (get_or_default ss t d Ended inside) (subst (λ v. is_ready (status_of ss v) ≡ false) here (idle c.0 c.1))

-- of the ready threads of a list one has the greatest priority
record Best (ps : List ℕ) (ss : List Status) (xs : List ℕ) : Type 0 where
  who : ℕ
  among : Contains xs who
  ready : is_ready (status_of ss who) ≡ true
  greatest : (k d : ℕ) → k < length xs → is_ready (status_of ss (get_or xs k d)) ≡ true → priority_of ps (get_or xs k d) ≤ priority_of ps who

abbrev NoneIsReady : List Status → List ℕ → Type 0
NoneIsReady ss xs = (k d : ℕ) → k < length xs → is_ready (status_of ss (get_or xs k d)) ≡ false

idle_more : (ss : List Status) (x : ℕ) (xs : List ℕ) → is_ready (status_of ss x) ≡ false → NoneIsReady ss xs → NoneIsReady ss (x ∷ xs)
idle_more ss x xs here h zero d inside = here
idle_more ss x xs here h (suc k) d inside = h k d (omega (arith, inside))

greatest_more : (ps : List ℕ) (ss : List Status) (x : ℕ) (xs : List ℕ) (most : ℕ)
    → (is_ready (status_of ss x) ≡ true → priority_of ps x ≤ most)
    → ((k d : ℕ) → k < length xs → is_ready (status_of ss (get_or xs k d)) ≡ true → priority_of ps (get_or xs k d) ≤ most)
    → (k d : ℕ) → k < length (x ∷ xs) → is_ready (status_of ss (get_or (x ∷ xs) k d)) ≡ true → priority_of ps (get_or (x ∷ xs) k d) ≤ most
greatest_more ps ss x xs most here h zero d inside ready = here ready
greatest_more ps ss x xs most here h (suc k) d inside ready = h k d (omega (arith, inside)) ready

none_above : (ps : List ℕ) (ss : List Status) (xs : List ℕ) (most : ℕ) → NoneIsReady ss xs → (k d : ℕ) → k < length xs → is_ready (status_of ss (get_or xs k d)) ≡ true → priority_of ps (get_or xs k d) ≤ most
none_above ps ss xs most idle k d inside ready = absurd (let bad : false ≡ true = sym (idle k d inside) ∙ ready in cc)

better : (ps : List ℕ) (ss : List Status) (x : ℕ) (xs : List ℕ) → is_ready (status_of ss x) ≡ true → Best ps ss xs → Best ps ss (x ∷ xs)
better ps ss x xs ready b =
    elim (le_tells (priority_of ps b.who) (priority_of ps x)) [
      | inl low ↦ record {
        who = x;
        among = (0, omega arith, refl);
        ready = ready;
        greatest = greatest_more ps ss x xs (priority_of ps x) (λ _. omega arith) (λ k d inside up. omega (arith, b.greatest k d inside up, low.1));
      }
      | inr high ↦ record {
        who = b.who;
        among = contains_more b.who x xs b.among;
        ready = b.ready;
        greatest = greatest_more ps ss x xs (priority_of ps b.who) (λ _. omega (arith, high.1)) b.greatest;
      }
    ]

best : (ps : List ℕ) (ss : List Status) (xs : List ℕ) → NoneIsReady ss xs ⊎ Best ps ss xs
best ps ss [] = inl (λ k d inside. absurd (omega (arith, inside)))
best ps ss (x ∷ xs) =
    elim (bool_tells (is_ready (status_of ss x))) [
      | inl ready ↦ elim (best ps ss xs) [
        | inl idle ↦ inr (record {
          who = x;
          among = (0, omega arith, refl);
          ready = ready;
          greatest = greatest_more ps ss x xs (priority_of ps x) (λ _. omega arith) (none_above ps ss xs (priority_of ps x) idle);
        })
        | inr b ↦ inr (better ps ss x xs ready b)
      ]
      | inr rests ↦ elim (best ps ss xs) [
        | inl idle ↦ inl (idle_more ss x xs rests idle)
        | inr b ↦ inr (record {
          who = b.who;
          among = contains_more b.who x xs b.among;
          ready = b.ready;
          greatest = greatest_more ps ss x xs (priority_of ps b.who) (λ up. absurd (let bad : false ≡ true = sym rests ∙ up in cc)) b.greatest;
        })
      ]
    ]

-- where none is picked, none is ready
pub no_pick_is_idle : (ps : List ℕ) (ss : List Status) (order : List ℕ) → pick ps ss order ≡ None → (k : ℕ) → k < length order → is_ready (status_of ss (get_or order k 0)) ≡ false
no_pick_is_idle ps ss order none k inside =
    elim (best ps ss order) [
      | inl idle ↦ idle k 0 inside
      | inr b ↦
          let passes : is_foremost ps ss order b.who ≡ true = foremost_is ps ss order b.who b.ready b.greatest in
          let fails : is_foremost ps ss order b.who ≡ false = subst (λ v. is_foremost ps ss order v ≡ false) b.among.2 (none_passes (is_foremost ps ss order) order none b.among.0 b.who b.among.1) in
          absurd (let bad : false ≡ true = sym fails ∙ passes in cc)
    ]
