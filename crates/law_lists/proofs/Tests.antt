-- Tests that tell: what a Bool test says of numbers, options and texts, and a test by cases.
use Rattle.std.proofs.Common.{◌≡◌, ℕ, zero, suc, not, List, Option, Some, None, is_none, is_some, unwrap_or, bytes_eq, ◌||◌, ◌<◌, ◌≤◌, Bool, true, false, ◌&&◌, cond, nat_lt, nat_le, nat_eq, ◌⊎◌, inl, inr, refl}
use Rattle.std.proofs.lemmas.Bool.{ltb-true, ltb-false, leb-true, leb-false, eqb-true, eqb-false, cases_Bool, and_parts}
use Rattle.std.proofs.lemmas.Slice.Eq.{bytes_eq-Decides}

pub bool_tells : (b : Bool) → (b ≡ true) ⊎ (b ≡ false)
bool_tells b = cases_Bool b

pub lt_tells : (a b : ℕ) → ((nat_lt a b ≡ true) × (a < b)) ⊎ ((nat_lt a b ≡ false) × (b ≤ a))
lt_tells a b = elim (cases_Bool (nat_lt a b)) [ inl e ↦ inl (e, ltb-true a b e) | inr e ↦ inr (e, ltb-false a b e) ]

pub le_tells : (a b : ℕ) → ((nat_le a b ≡ true) × (a ≤ b)) ⊎ ((nat_le a b ≡ false) × (b < a))
le_tells a b = elim (cases_Bool (nat_le a b)) [ inl e ↦ inl (e, leb-true a b e) | inr e ↦ inr (e, leb-false a b e) ]

pub eq_tells : (a b : ℕ) → ((nat_eq a b ≡ true) × (a ≡ b)) ⊎ ((nat_eq a b ≡ false) × (a ≡ b → ⊥))
eq_tells a b = elim (cases_Bool (nat_eq a b)) [ inl e ↦ inl (e, eqb-true a b e) | inr e ↦ inr (e, eqb-false a b e) ]

pub none_is : {A : Type 0} (o : Option A) → is_none o ≡ true → o ≡ None
none_is None e = refl
none_is (Some x) e = absurd (let clash : false ≡ true = e in cc)

pub some_is : {A : Type 0} (o : Option A) (d : A) → is_some o ≡ true → o ≡ Some (unwrap_or o d)
some_is None d e = absurd (let clash : false ≡ true = e in cc)
some_is (Some x) d e = refl

pub same_bytes : (a b : List ℕ) → bytes_eq a b ≡ true → a ≡ b
same_bytes a b e = (bytes_eq-Decides a b).0 e

pub own_bytes : (a : List ℕ) → bytes_eq a a ≡ true
own_bytes a = (bytes_eq-Decides a a).1 refl

pub both_left : (x y : Bool) → (x && y) ≡ true → x ≡ true
both_left x y h = (and_parts x y h).0

pub both_right : (x y : Bool) → (x && y) ≡ true → y ≡ true
both_right x y h = (and_parts x y h).1

pub all_three : (x y z : Bool) → x ≡ true → y ≡ true → z ≡ true → (x && y && z) ≡ true
all_three x y z a b c = rw (a, b, c) refl

-- a property of a choice, by its two cases
pub chosen : {A : Type 0} (P : A → Type 0) (b : Bool) (x y : A) → (b ≡ true → P x) → (b ≡ false → P y) → P (cond b x y)
chosen P true x y yes_case no_case = yes_case refl
chosen P false x y yes_case no_case = no_case refl

-- the same of a choice that goes by a range: from the one number on, below the other
pub chosen_in : {A : Type 0} (P : A → Type 0) (from to n : ℕ) (x y : A) → (from ≤ n → n < to → P x) → ((n < from) ⊎ (to ≤ n) → P y) → P (cond (nat_le from n && nat_lt n to) x y)
chosen_in P from to n x y inside outside = elim (le_tells from n) [
  | inl e ↦ elim (lt_tells n to) [
    | inl f ↦ let test : (nat_le from n && nat_lt n to) ≡ true = rw (e.0, f.0) refl in rw test (inside e.1 f.1)
    | inr f ↦ let test : (nat_le from n && nat_lt n to) ≡ false = rw (e.0, f.0) refl in rw test (outside (inr f.1))
  ]
  | inr e ↦ let test : (nat_le from n && nat_lt n to) ≡ false = rw e.0 refl in rw test (outside (inl e.1))
]

-- what a test says of each number below n, and of those after, it says of all
abbrev pub all_below : (ℕ → Bool) → ℕ → Bool
all_below f zero = true
all_below f (suc n) = f 0 && all_below (λ j. f (suc j)) n

-- the number that is so far past another
abbrev pub past : ℕ → ℕ → ℕ
past zero j = j
past (suc n) j = suc (past n j)

pub by_test : (f : ℕ → Bool) (n : ℕ) → all_below f n ≡ true → ((j : ℕ) → f (past n j) ≡ true) → (k : ℕ) → f k ≡ true
by_test f zero below rest k = rest k
by_test f (suc n) below rest zero = both_left (f 0) (all_below (λ j. f (suc j)) n) below
by_test f (suc n) below rest (suc k) = by_test (λ j. f (suc j)) n (both_right (f 0) (all_below (λ j. f (suc j)) n) below) rest k

-- what a test asks under another
pub implied : (a b : Bool) → (not a || b) ≡ true → a ≡ true → b ≡ true
implied true b h is = h
implied false b h is = absurd (let clash : false ≡ true = is in cc)
