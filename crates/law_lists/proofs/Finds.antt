-- The first element that passes a test.
use Rattle.std.proofs.Common.{refl, ◌≤◌, ◌≡◌, ℕ, zero, suc, ◌<◌, List, [], ◌∷◌, Bool, true, false, Some, None, inl, inr, ap, sym, ◌∙◌, arith, length, ◌-◌, take, drop}
use Rattle.std.proofs.Math.ListN.{get_or}
use Rattle.std.specs.List.{find, filter, position}
use Rattle.std.proofs.lemmas.Bool.{lt-ltb, le-ltb}
use Rattle.std.proofs.lemmas.List.Folds.{find_at}
use Rattle.std.proofs.lemmas.List.Quantifiers.{position-Some}
use Rattle.std.proofs.lemmas.List.Sums.{position_or_len_is}
use Rattle.std.proofs.lemmas.Option.{slice_get-get_or, slice_get_past}
use Rattle.law_lists.proofs.Tests.{bool_tells}

-- an element is the first that passes
pub record IsFirst {A : Type 0} (p : A → Bool) (xs : List A) (x : A) : Type 0 where
  pub place : ℕ
  pub inside : place < length xs
  pub is : get_or xs place x ≡ x
  pub passes : p x ≡ true
  pub before : (k : ℕ) → k < place → p (get_or xs k x) ≡ false

pub find_is : {A : Type 0} (p : A → Bool) (xs : List A) (x : A) → IsFirst p xs x → find p xs ≡ Some x
find_is p xs x first =
    find_at p xs
    ∙ rw (position_or_len_is p xs first.place x (omega (arith, first.inside)) first.before (λ _. rw first.is first.passes))
    (slice_get-get_or xs first.place x first.inside ∙ ap (λ y. Some y) first.is)

pub find_none : {A : Type 0} (p : A → Bool) (xs : List A) (d : A) → ((k : ℕ) → k < length xs → p (get_or xs k d) ≡ false) → find p xs ≡ None
find_none p xs d none =
    find_at p xs
    ∙ rw (position_or_len_is p xs (length xs) d (omega arith) none (λ lt. absurd (omega (arith, lt)))) (slice_get_past xs (length xs) (omega arith))

same_first : {A : Type 0} (p : A → Bool) (x y : A) (xs : List A) → p x ≡ true → x ≡ y → IsFirst p (x ∷ xs) y
same_first p x y xs yes_here e = record { place = 0; inside = omega arith; is = e; passes = rw (← e) yes_here; before = λ k lt. absurd (omega (arith, lt)) }

before_more : {A : Type 0} (p : A → Bool) (x y : A) (xs : List A) (place : ℕ) → p x ≡ false → ((k : ℕ) → k < place → p (get_or xs k y) ≡ false) → (k : ℕ) → k < suc place → p (get_or (x ∷ xs) k y) ≡ false
before_more p x y xs place no_here h zero lt = no_here
before_more p x y xs place no_here h (suc k) lt = h k (omega (arith, lt))

more_first : {A : Type 0} (p : A → Bool) (x y : A) (xs : List A) → p x ≡ false → IsFirst p xs y → IsFirst p (x ∷ xs) y
more_first p x y xs no_here f = record {
  place = suc f.place;
  inside = omega (arith, f.inside);
  is = f.is;
  passes = f.passes;
  before = before_more p x y xs f.place no_here f.before;
}

pub find_tells : {A : Type 0} (p : A → Bool) (xs : List A) (y : A) → find p xs ≡ Some y → IsFirst p xs y
find_tells p [] y found = absurd (cc)
find_tells p (x ∷ xs) y found =
    elim (bool_tells (p x)) [
      | inl yes_here ↦ same_first p x y xs yes_here (let e : Some x ≡ Some y = rw yes_here at found in cc)
      | inr no_here ↦ more_first p x y xs no_here (find_tells p xs y (rw no_here at found))
    ]

pub none_passes : {A : Type 0} (p : A → Bool) (xs : List A) → find p xs ≡ None → (k : ℕ) (d : A) → k < length xs → p (get_or xs k d) ≡ false
none_passes p [] none k d inside = absurd (omega (arith, inside))
none_passes p (x ∷ xs) none zero d inside =
    elim (bool_tells (p x)) [ inl yes_here ↦ absurd (let e : Some x ≡ None = rw yes_here at none in cc) | inr no_here ↦ no_here ]
none_passes p (x ∷ xs) none (suc k) d inside =
    elim (bool_tells (p x)) [ inl yes_here ↦ absurd (let e : Some x ≡ None = rw yes_here at none in cc) | inr no_here ↦ none_passes p xs (rw no_here at none) k d (omega (arith, inside)) ]

-- ---- places

less_none : (n : ℕ) → n - 0 ≡ n
less_none n = omega arith

less_both : (m n : ℕ) → n - m ≡ suc n - suc m
less_both m n = omega arith

pub position_is : {A : Type 0} (p : A → Bool) (xs : List A) (i : ℕ) (d : A) → i < length xs → p (get_or xs i d) ≡ true → ((k : ℕ) → k < i → p (get_or xs k d) ≡ false) → position p xs ≡ Some i
position_is p xs i d inside passes before =
    rw (position_or_len_is p xs i d (omega (arith, inside)) before (λ _. passes), lt-ltb i (length xs) inside) refl

pub position_none : {A : Type 0} (p : A → Bool) (xs : List A) (d : A) → ((k : ℕ) → k < length xs → p (get_or xs k d) ≡ false) → position p xs ≡ None
position_none p xs d none =
    rw (position_or_len_is p xs (length xs) d (omega arith) none (λ lt. absurd (omega (arith, lt))), le-ltb (length xs) (length xs) (omega arith)) refl

-- what was found is one of them
pub position_inside : {A : Type 0} (p : A → Bool) (xs : List A) (k : ℕ) → position p xs ≡ Some k → k < length xs
position_inside p [] k found = absurd (let no : None ≡ Some k = found in cc)
position_inside p (x ∷ xs) k found = (position-Some p (x ∷ xs) k x found).0

-- the elements that pass stand together: those from one place up to another
pub filter_window : {A : Type 0} (p : A → Bool) (xs : List A) (low high : ℕ) → low ≤ high → high ≤ length xs
    → ((k : ℕ) (d : A) → k < low → p (get_or xs k d) ≡ false)
    → ((k : ℕ) (d : A) → low ≤ k → k < high → p (get_or xs k d) ≡ true)
    → ((k : ℕ) (d : A) → high ≤ k → k < length xs → p (get_or xs k d) ≡ false)
    → filter p xs ≡ take (high - low) (drop low xs)
filter_window p [] zero zero order fits before inside after = refl
filter_window p [] zero (suc high) order fits before inside after = absurd (omega (arith, fits))
filter_window p [] (suc low) high order fits before inside after = absurd (omega (arith, order, fits))
filter_window p (x ∷ xs) zero zero order fits before inside after =
    rw (after 0 x (omega arith) (omega arith))
    (filter_window p xs 0 0 (omega arith) (omega arith) (λ k d lt. absurd (omega (arith, lt))) (λ k d lo lt. absurd (omega (arith, lt))) (λ k d lo lt. after (suc k) d (omega arith) (omega (arith, lt))))
filter_window p (x ∷ xs) zero (suc high) order fits before inside after =
    rw (inside 0 x (omega arith) (omega arith))
    (ap (λ r. x ∷ r) (filter_window p xs 0 high (omega arith) (omega (arith, fits)) (λ k d lt. absurd (omega (arith, lt))) (λ k d lo lt. inside (suc k) d (omega arith) (omega (arith, lt))) (λ k d lo lt. after (suc k) d (omega (arith, lo)) (omega (arith, lt))) ∙ ap (λ n. take n xs) (less_none high)) ∙ ap (λ n. take n (x ∷ xs)) (sym (less_none (suc high))))
filter_window p (x ∷ xs) (suc low) zero order fits before inside after = absurd (omega (arith, order))
filter_window p (x ∷ xs) (suc low) (suc high) order fits before inside after =
    rw (before 0 x (omega arith))
    (filter_window p xs low high (omega (arith, order)) (omega (arith, fits)) (λ k d lt. before (suc k) d (omega (arith, lt))) (λ k d lo lt. inside (suc k) d (omega (arith, lo)) (omega (arith, lt))) (λ k d lo lt. after (suc k) d (omega (arith, lo)) (omega (arith, lt)))
    ∙ ap (λ n. take n (drop low xs)) (less_both low high))
