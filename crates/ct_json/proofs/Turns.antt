-- How many turns there are doesn't matter, once they are enough.
use Rattle.std.proofs.Common.{◌≡◌, ℕ, zero, suc, ◌+◌, ◌-◌, ◌*◌, ◌≤◌, List, [], ◌∷◌, length, drop, length-drop, add-one, Bool, true, false, true≢false, arith, refl, ap}
use Rattle.serde_json.specs.Data as value
use Rattle.serde_json.specs.Data.{Data, Items}
use Rattle.ct_json.specs.Rows.{Row, list, object, key, inside, span, value_in, items_in, pairs_in, put_all, value_of, items_of, pairs_of, value_at}

abbrev pub is_key : Row → Bool
is_key (key s) = true
is_key x = false

mutual
  pub value_turns : (f g : ℕ) (xs : List Row) → 2 * length xs ≤ f → 2 * length xs ≤ g → value_in f xs ≡ value_in g xs
  value_turns zero zero xs a b = refl
  value_turns zero (suc g) [] a b = refl
  value_turns zero (suc g) (x ∷ xs) a b = absurd (omega arith)
  value_turns (suc f) zero [] a b = refl
  value_turns (suc f) zero (x ∷ xs) a b = absurd (omega arith)
  value_turns (suc f) (suc g) [] a b = refl
  value_turns (suc f) (suc g) (list n ∷ xs) a b = ap value.array (items_turns f g n xs (omega arith) (omega arith))
  value_turns (suc f) (suc g) (object n ∷ xs) a b =
      ap (λ ps. value.object (put_all ps value.no_members)) (pairs_turns f g n xs (omega arith) (omega arith))
  value_turns (suc f) (suc g) (x ∷ xs) a b = refl

  pub items_turns : (f g n : ℕ) (xs : List Row) → 2 * length xs + 1 ≤ f → 2 * length xs + 1 ≤ g
      → items_in f n xs ≡ items_in g n xs
  items_turns zero g n xs a b = absurd (omega arith)
  items_turns (suc f) zero n xs a b = absurd (omega arith)
  items_turns (suc f) (suc g) zero xs a b = refl
  items_turns (suc f) (suc g) (suc n) [] a b = refl
  items_turns (suc f) (suc g) (suc n) (x ∷ xs) a b =
      rw (
        value_turns f g (x ∷ xs) (omega arith) (omega arith),
        items_turns f g (n - inside x) (drop (inside x) xs) (omega (arith, length-drop (inside x) xs))
            (omega (arith, length-drop (inside x) xs)),
      )

  pub pairs_turns : (f g n : ℕ) (xs : List Row) → 2 * length xs + 1 ≤ f → 2 * length xs + 1 ≤ g
      → pairs_in f n xs ≡ pairs_in g n xs
  pairs_turns zero g n xs a b = absurd (omega arith)
  pairs_turns (suc f) zero n xs a b = absurd (omega arith)
  pairs_turns (suc f) (suc g) zero xs a b = refl
  pairs_turns (suc f) (suc g) (suc n) [] a b = refl
  pairs_turns (suc f) (suc g) (suc n) (key s ∷ xs) a b =
      rw (
        value_turns f g xs (omega arith) (omega arith),
        pairs_turns f g (n - span xs) (drop (span xs) xs) (omega (arith, length-drop (span xs) xs))
            (omega (arith, length-drop (span xs) xs)),
      )
  pairs_turns (suc f) (suc g) (suc n) (x ∷ xs) a b = refl

pub value_of-nil : value_of [] ≡ value.null
unfolding value_of
value_of-nil = refl

value_in-cons : (x : Row) (xs : List Row) (f : ℕ) → 2 * length xs + 1 ≤ f → value_in (suc f) (x ∷ xs) ≡ value_at x xs
unfolding items_of pairs_of
value_in-cons (list n) xs f h = ap value.array (items_turns f _ n xs h (omega arith))
value_in-cons (object n) xs f h =
    ap (λ ps. value.object (put_all ps value.no_members)) (pairs_turns f _ n xs h (omega arith))
value_in-cons x xs f h = refl

pub value_of-cons : (x : Row) (xs : List Row) → value_of (x ∷ xs) ≡ value_at x xs
unfolding value_of
value_of-cons x xs =
    let turns : 2 * length (x ∷ xs) ≡ suc (2 * length xs + 1) = omega arith in
    rw turns (value_in-cons x xs _ (omega arith))

pub items_of-zero : (xs : List Row) → items_of 0 xs ≡ value.no_items
unfolding items_of
items_of-zero xs = rw add-one

pub items_of-nil : (n : ℕ) → items_of n [] ≡ value.no_items
unfolding items_of
items_of-nil zero = refl
items_of-nil (suc n) = refl

items_at : (f n : ℕ) (x : Row) (xs : List Row) → 2 * length xs + 2 ≤ f
    → items_in (suc f) (suc n) (x ∷ xs) ≡ value.item (value_of (x ∷ xs)) (items_of (n - inside x) (drop (inside x) xs))
unfolding items_of value_of
items_at f n x xs h =
    rw (
      value_turns f (2 * length (x ∷ xs)) (x ∷ xs) (omega arith) (omega arith),
      items_turns f (2 * length (drop (inside x) xs) + 1) (n - inside x) (drop (inside x) xs)
          (omega (arith, length-drop (inside x) xs)) (omega arith),
    )

pub items_of-cons : (n : ℕ) (x : Row) (xs : List Row)
    → items_of (suc n) (x ∷ xs) ≡ value.item (value_of (x ∷ xs)) (items_of (n - inside x) (drop (inside x) xs))
unfolding items_of
items_of-cons n x xs =
    let turns : 2 * length (x ∷ xs) + 1 ≡ suc (2 * length (x ∷ xs)) = omega arith in
    rw turns (items_at (2 * length (x ∷ xs)) n x xs (omega arith))

pub pairs_of-zero : (xs : List Row) → pairs_of 0 xs ≡ []
unfolding pairs_of
pairs_of-zero xs = rw add-one

pub pairs_of-nil : (n : ℕ) → pairs_of n [] ≡ []
unfolding pairs_of
pairs_of-nil zero = refl
pairs_of-nil (suc n) = refl

pairs_at : (f n : ℕ) (s : List ℕ) (xs : List Row) → 2 * length xs + 1 ≤ f
    → pairs_in (suc f) (suc n) (key s ∷ xs) ≡ (s, value_of xs) ∷ pairs_of (n - span xs) (drop (span xs) xs)
unfolding pairs_of value_of
pairs_at f n s xs h =
    rw (
      value_turns f (2 * length xs) xs (omega arith) (omega arith),
      pairs_turns f (2 * length (drop (span xs) xs) + 1) (n - span xs) (drop (span xs) xs)
          (omega (arith, length-drop (span xs) xs)) (omega arith),
    )

pub pairs_of-key : (n : ℕ) (s : List ℕ) (xs : List Row)
    → pairs_of (suc n) (key s ∷ xs) ≡ (s, value_of xs) ∷ pairs_of (n - span xs) (drop (span xs) xs)
unfolding pairs_of
pairs_of-key n s xs =
    let turns : 2 * length (key s ∷ xs) + 1 ≡ suc (2 * length (key s ∷ xs)) = omega arith in
    rw turns (pairs_at (2 * length (key s ∷ xs)) n s xs (omega arith))

pub pairs_of-other : (n : ℕ) (x : Row) (xs : List Row) → is_key x ≡ false → pairs_of n (x ∷ xs) ≡ []
unfolding pairs_of
pairs_of-other n (key s) xs h = absurd (true≢false h)
pairs_of-other zero x xs h = rw add-one
pairs_of-other (suc n) x xs h =
    let turns : 2 * length (x ∷ xs) + 1 ≡ suc (2 * length (x ∷ xs)) = omega arith in
    rw turns
