-- A wake, one thread after another, and how many threads go on after it.
use Rattle.std.proofs.Common.{map-id, ◌^◌, ◌≡◌, ℕ, zero, suc, ◌+◌, ◌<◌, ◌≤◌, ◌++◌, List, [], ◌∷◌, true, false, cond, min, inl, inr, refl, ap, sym, ◌∙◌, subst, arith, length, replicate, map, take, drop, append_assoc, drop-cons, ◌-◌, ◌⊎◌}
use Rattle.std.proofs.Math.ListN.{get_or, set}
use Rattle.std.specs.List.{All, range_with_len, count_by}
use Rattle.std.proofs.Math.Seq.{take-length}
use Rattle.std.proofs.lemmas.List.{set-append_right, get_or-append_right, get_or_default, append-nil, take-append-le, length-replicate, get_or-replicate}
use Rattle.std.proofs.lemmas.List.FromFn.{map-range_with_len_more, sum_by-map-range_with_len_more, length-map-range_with_len}
use Rattle.std.proofs.lemmas.List.Sums.{count_by_more_no, count_by_more_yes, count_by-le-length}
use Rattle.law_lists.proofs.Tests.{bool_tells, lt_tells}
use Rattle.def_sched.specs.declared.Status.{Status}
use Rattle.def_sched.specs.declared.Status.TheVariants.{Ready, Sleeping, Waiting, Ended}
use Rattle.law_sched.proofs.Orders.{starts}
use Rattle.def_sched.specs.Picks.{IsOrder, first_order}
use Rattle.ct_sched.specs.Sched.{SchedRow, IsKept}
use Rattle.def_sched.specs.Statuses.{runs_again, waits_for, after_wake, status_of, woken, woken_count}

-- ---- a list that is replaced from the front

abbrev pub front : {A : Type 0} → (ℕ → A) → ℕ → List A → List A
front f n xs = map f (range_with_len 0 n) ++ drop n xs

here_and_rest : {A : Type 0} (f : ℕ → A) (n : ℕ) (xs : List A) (d : A) → n < length xs → front f n xs ≡ map f (range_with_len 0 n) ++ get_or xs n d ∷ drop (n + 1) xs
here_and_rest f n xs d inside =
    let next : n + 1 ≡ suc n = omega arith in
    rw next (ap (λ r. map f (range_with_len 0 n) ++ r) (drop-cons xs n d inside))

new_and_rest : {A : Type 0} (f : ℕ → A) (n : ℕ) (xs : List A) → front f (n + 1) xs ≡ map f (range_with_len 0 n) ++ f n ∷ drop (n + 1) xs
new_and_rest f n xs =
    ap (λ r. r ++ drop (n + 1) xs) (map-range_with_len_more f 0 n n (omega arith)) ∙ append_assoc (map f (range_with_len 0 n)) (f n ∷ []) (drop (n + 1) xs)

first_set : {A : Type 0} (k : ℕ) (x y : A) (xs : List A) → k ≡ 0 → set (x ∷ xs) k y ≡ y ∷ xs
first_set k x y xs none = rw none refl

first_got : {A : Type 0} (k : ℕ) (x d : A) (xs : List A) → k ≡ 0 → get_or (x ∷ xs) k d ≡ x
first_got k x d xs none = rw none refl

pub next_front : {A : Type 0} (f : ℕ → A) (n : ℕ) (xs : List A) (d : A) → n < length xs → set (front f n xs) n (f n) ≡ front f (n + 1) xs
next_front f n xs d inside =
    let done = map f (range_with_len 0 n) in
    ap (λ r. set r n (f n)) (here_and_rest f n xs d inside)
    ∙ set-append_right done (get_or xs n d ∷ drop (n + 1) xs) n n (f n) (length-map-range_with_len f 0 n) (omega arith)
    ∙ ap (λ r. done ++ r) (first_set (n - n) (get_or xs n d) (f n) (drop (n + 1) xs) (omega arith))
    ∙ sym (new_and_rest f n xs)

pub kept_front : {A : Type 0} (f : ℕ → A) (n : ℕ) (xs : List A) (d : A) → n < length xs → f n ≡ get_or xs n d → front f n xs ≡ front f (n + 1) xs
kept_front f n xs d inside is =
    here_and_rest f n xs d inside ∙ ap (λ y. map f (range_with_len 0 n) ++ y ∷ drop (n + 1) xs) (sym is) ∙ sym (new_and_rest f n xs)

pub front_at : {A : Type 0} (f : ℕ → A) (n : ℕ) (xs : List A) (d : A) → n < length xs → get_or (front f n xs) n d ≡ get_or xs n d
front_at f n xs d inside =
    let done = map f (range_with_len 0 n) in
    ap (λ r. get_or r n d) (here_and_rest f n xs d inside)
    ∙ get_or-append_right done (get_or xs n d ∷ drop (n + 1) xs) n n d (length-map-range_with_len f 0 n) (omega arith)
    ∙ first_got (n - n) (get_or xs n d) d (drop (n + 1) xs) (omega arith)

-- ---- one thread

abbrev pub waiting : ℕ → List Status → ℕ → ℕ
waiting a xs n = count_by (waits_for a) (take n xs)

pub it_wakes : (a m : ℕ) (xs : List Status) (n : ℕ) → waits_for a (status_of xs n) ≡ true → waiting a xs n < m → after_wake a m xs n ≡ Ready
it_wakes a m xs n waits below =
    elim (lt_tells (waiting a xs n) m) [
      | inl lt ↦ rw (waits, lt.0) refl
      | inr ge ↦ absurd (omega (arith, ge.1, below))
    ]

pub too_many : (a m : ℕ) (xs : List Status) (n : ℕ) → m ≤ waiting a xs n → after_wake a m xs n ≡ status_of xs n
too_many a m xs n above =
    elim (lt_tells (waiting a xs n) m) [
      | inl lt ↦ absurd (omega (arith, lt.1, above))
      | inr ge ↦ elim (bool_tells (waits_for a (status_of xs n))) [ inl yes_here ↦ rw (yes_here, ge.0) refl | inr no_here ↦ rw no_here refl ]
    ]

pub it_stays : (a m : ℕ) (xs : List Status) (n : ℕ) → waits_for a (status_of xs n) ≡ false → after_wake a m xs n ≡ status_of xs n
it_stays a m xs n idle = rw idle refl

-- ---- one thread after another

-- after n threads
pub record SoFar (a m : ℕ) (xs : List Status) (n : ℕ) (now : List Status) (count : ℕ) : Type 0 where
  pub statuses : now ≡ front (after_wake a m xs) n xs
  pub count_is : count ≡ min m (waiting a xs n)

pub one_wakes : (a m : ℕ) (xs : List Status) (n : ℕ) (now : List Status) (count : ℕ) (d : Status) → SoFar a m xs n now count → n < length xs → count < m → waits_for a (get_or now n d) ≡ true → SoFar a m xs (n + 1) (set now n Ready) (count + 1)
one_wakes a m xs n now count d h inside below waits =
    let here : get_or now n d ≡ status_of xs n = ap (λ r. get_or r n d) h.statuses ∙ front_at (after_wake a m xs) n xs d inside ∙ get_or_default xs n d Ended inside in
    let waits_here : waits_for a (status_of xs n) ≡ true = subst (λ s. waits_for a s ≡ true) here waits in
    let wakes_here : after_wake a m xs n ≡ Ready = it_wakes a m xs n waits_here (omega (arith, h.count_is, below)) in
    record {
      statuses = ap (λ r. set r n Ready) h.statuses ∙ ap (λ s. set (front (after_wake a m xs) n xs) n s) (sym wakes_here) ∙ next_front (after_wake a m xs) n xs Ended inside;
      count_is = omega (arith, h.count_is, below, count_by_more_yes (waits_for a) xs n Ended inside waits_here);
    }

pub one_stays : (a m : ℕ) (xs : List Status) (n : ℕ) (now : List Status) (count : ℕ) (d : Status) → SoFar a m xs n now count → n < length xs → (m ≤ count) ⊎ (waits_for a (get_or now n d) ≡ false) → SoFar a m xs (n + 1) now count
one_stays a m xs n now count d h inside (inl above) =
    record {
      statuses = h.statuses ∙ kept_front (after_wake a m xs) n xs Ended inside (too_many a m xs n (omega (arith, h.count_is, above)));
      count_is = elim (bool_tells (waits_for a (status_of xs n))) [
        | inl yes_here ↦ omega (arith, h.count_is, above, count_by_more_yes (waits_for a) xs n Ended inside yes_here)
        | inr no_here ↦ omega (arith, h.count_is, above, count_by_more_no (waits_for a) xs n Ended inside no_here)
      ];
    }
one_stays a m xs n now count d h inside (inr idle) =
    let here : get_or now n d ≡ status_of xs n = ap (λ r. get_or r n d) h.statuses ∙ front_at (after_wake a m xs) n xs d inside ∙ get_or_default xs n d Ended inside in
    let idle_here : waits_for a (status_of xs n) ≡ false = subst (λ s. waits_for a s ≡ false) here idle in
    record {
      statuses = h.statuses ∙ kept_front (after_wake a m xs) n xs Ended inside (it_stays a m xs n idle_here);
      count_is = omega (arith, h.count_is, count_by_more_no (waits_for a) xs n Ended inside idle_here);
    }

none_left : (xs : List Status) → drop (length xs) xs ≡ []
none_left [] = refl
none_left (x ∷ xs) = none_left xs

pub all_woken : (a m : ℕ) (xs now : List Status) (count : ℕ) → SoFar a m xs (length xs) now count → (now ≡ woken a m xs) × (count ≡ woken_count a m xs)
all_woken a m xs now count h =
    (h.statuses ∙ ap (λ r. woken a m xs ++ r) (none_left xs) ∙ append-nil (woken a m xs), h.count_is ∙ ap (λ r. min m (count_by (waits_for a) r)) (take-length xs))

-- ---- who goes on

abbrev one_if : Status → ℕ
one_if s = cond (runs_again s) 1 0

going_more : (xs : List Status) (n : ℕ) → n < length xs → count_by runs_again (take (n + 1) xs) ≡ count_by runs_again (take n xs) + one_if (status_of xs n)
going_more xs n inside =
    elim (bool_tells (runs_again (status_of xs n))) [
      | inl yes_here ↦ rw yes_here (count_by_more_yes runs_again xs n Ended inside yes_here)
      | inr no_here ↦ rw no_here (omega (arith, count_by_more_no runs_again xs n Ended inside no_here))
    ]

waiting_idles : (a : ℕ) (s : Status) → waits_for a s ≡ true → one_if s ≡ 0
waiting_idles a Ready waits = absurd (cc)
waiting_idles a (Sleeping ticks) waits = absurd (cc)
waiting_idles a (Waiting word) waits = refl
waiting_idles a Ended waits = absurd (cc)

-- one thread's part in what goes on after the wake
part : (a m : ℕ) (xs : List Status) (n : ℕ) → n < length xs → one_if (after_wake a m xs n) + min m (waiting a xs n) ≡ one_if (status_of xs n) + min m (waiting a xs (n + 1))
part a m xs n inside =
    elim (bool_tells (waits_for a (status_of xs n))) [
      | inl waits ↦
          let idles : one_if (status_of xs n) ≡ 0 = waiting_idles a (status_of xs n) waits in
          let more = count_by_more_yes (waits_for a) xs n Ended inside waits in
          elim (lt_tells (waiting a xs n) m) [
            | inl lt ↦ rw (it_wakes a m xs n waits lt.1) (omega (arith, idles, more, lt.1))
            | inr ge ↦ rw (too_many a m xs n ge.1) (omega (arith, more, ge.1))
          ]
      | inr idle ↦
          let more = count_by_more_no (waits_for a) xs n Ended inside idle in
          rw (it_stays a m xs n idle) (omega (arith, more))
    ]

going_so_far : (a m : ℕ) (xs : List Status) (n : ℕ) → n ≤ length xs → count_by runs_again (map (after_wake a m xs) (range_with_len 0 n)) ≡ count_by runs_again (take n xs) + min m (waiting a xs n)
going_so_far a m xs zero le = omega arith
going_so_far a m xs (suc n) le =
    let inside : n < length xs = omega (arith, le) in
    let next : suc n ≡ n + 1 = omega arith in
    let before = going_so_far a m xs n (omega (arith, le)) in
    let more = sum_by-map-range_with_len_more one_if (after_wake a m xs) 0 n n (omega arith) in
    subst (λ k. count_by runs_again (map (after_wake a m xs) (range_with_len 0 k)) ≡ count_by runs_again (take k xs) + min m (waiting a xs k)) (sym next)
    (omega (arith, before, more, going_more xs n inside, part a m xs n inside))

pub going_after : (a m : ℕ) (xs : List Status) → count_by runs_again (woken a m xs) ≡ count_by runs_again xs + woken_count a m xs
going_after a m xs = going_so_far a m xs (length xs) (omega arith) ∙ ap (λ r. count_by runs_again r + min m (count_by (waits_for a) r)) (take-length xs)

all_go : (xs : List Status) → All (λ s. runs_again s ≡ true) xs → (n : ℕ) → n ≤ length xs → count_by runs_again (take n xs) ≡ n
all_go xs go zero le = refl
all_go xs go (suc n) le =
    let inside : n < length xs = omega (arith, le) in
    let next : suc n ≡ n + 1 = omega arith in
    subst (λ k. count_by runs_again (take k xs) ≡ k) (sym next) (omega (arith, all_go xs go n (omega (arith, inside)), count_by_more_yes runs_again xs n Ended inside (go n Ended inside)))

pub all_going : (n : ℕ) → count_by runs_again (replicate n Ready) ≡ n
all_going n =
    let size : length (replicate n Ready) ≡ n = length-replicate n Ready in
    let whole : take n (replicate n Ready) ≡ replicate n Ready = ap (λ k. take k (replicate n Ready)) (sym size) ∙ take-length (replicate n Ready) in
    ap (λ r. count_by runs_again r) (sym whole) ∙ all_go (replicate n Ready) (λ k d inside. rw (get_or-replicate n k Ready d (omega (arith, inside, size))) refl) n (omega (arith, size))

-- ---- what a scheduler keeps

pub kept_at_first : (priorities : List ℕ) → length priorities < 2 ^ 32 → IsKept (record { priorities = priorities; statuses = replicate (length priorities) Ready; order = first_order (length priorities) }) (length priorities)
kept_at_first priorities few =
    let size : length (replicate (length priorities) Ready) ≡ length priorities = length-replicate (length priorities) Ready in
    record {
      few = omega (arith, size, few);
      priorities = sym size;
      order = subst (λ n. IsOrder n (first_order (length priorities))) (sym size) (starts (length priorities));
      going = sym (all_going (length priorities));
    }

pub range_more : (n : ℕ) → range_with_len 0 (n + 1) ≡ range_with_len 0 n ++ n ∷ []
range_more n = sym (map-id (range_with_len 0 (n + 1))) ∙ map-range_with_len_more (λ x. x) 0 n n (omega arith) ∙ ap (λ r. r ++ n ∷ []) (map-id (range_with_len 0 n))

pub all_put : (a m len : ℕ) (xs new : List Status) → new ≡ woken a m xs → len ≡ length xs → take len (new ++ drop (length new) xs) ≡ woken a m xs
all_put a m len xs new is size =
    let long : length new ≡ length xs = ap length is ∙ length-map-range_with_len (after_wake a m xs) 0 (length xs) in
    let all : len ≡ length new = size ∙ sym long in
    take-append-le len new (drop (length new) xs) (omega (arith, all)) ∙ ap (λ k. take k new) all ∙ take-length new ∙ is

pub few_go : (a m : ℕ) (xs : List Status) → count_by runs_again xs + woken_count a m xs ≤ length xs
few_go a m xs = omega (arith, going_after a m xs, count_by-le-length runs_again (woken a m xs), length-map-range_with_len (after_wake a m xs) 0 (length xs))

pub kept_by_wake : (s : SchedRow) (going a m : ℕ) → IsKept s going → IsKept (record s { statuses = woken a m s.statuses }) (going + woken_count a m s.statuses)
kept_by_wake s going a m k =
    let size : length (woken a m s.statuses) ≡ length s.statuses = length-map-range_with_len (after_wake a m s.statuses) 0 (length s.statuses) in
    record {
      few = omega (arith, size, k.few);
      priorities = k.priorities ∙ sym size;
      order = subst (λ n. IsOrder n s.order) (sym size) k.order;
      going = omega (arith, k.going, going_after a m s.statuses);
    }
