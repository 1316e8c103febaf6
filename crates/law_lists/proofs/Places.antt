-- Elements of a list by their places.
use Rattle.std.proofs.Common.{◌≡◌, ℕ, zero, suc, ◌+◌, ◌<◌, Bool, false, List, [], ◌∷◌, ◌++◌, Some, None, length, drop, get_or, slice_get, All, refl, sym, ap, subst, add-one, drop-cons, arith}
use Rattle.std.specs.List.{AllByRecursion, list_any}
use Rattle.std.proofs.lemmas.Bool.{or_parts}
use Rattle.std.proofs.lemmas.Option.{slice_get-get_or}

-- below the length there is one
pub present : {A : Type 0} (xs : List A) (i : ℕ) → i < length xs → (x : A) × (slice_get xs i ≡ Some x)
present [] i lt = absurd (omega (arith, lt))
present (x ∷ xs) zero lt = (x, refl)
present (x ∷ xs) (suc i) lt = present xs i (omega (arith, lt))

-- it is there where the list goes on
pub still_there : {A : Type 0} (xs ys : List A) (i : ℕ) (x : A) → slice_get xs i ≡ Some x → slice_get (xs ++ ys) i ≡ Some x
still_there [] ys i x is = absurd (let no : None ≡ Some x = is in cc)
still_there (z ∷ zs) ys zero x is = is
still_there (z ∷ zs) ys (suc i) x is = still_there zs ys i x is

-- it comes next of what is left
pub from_here : {A : Type 0} (xs : List A) (i : ℕ) (x : A) → i < length xs → x ≡ get_or xs i x → drop i xs ≡ x ∷ drop (i + 1) xs
from_here xs i x inside is = rw (add-one, drop-cons xs i x) (ap (λ y. y ∷ drop (suc i) xs) (sym is))

-- what holds of each holds of all
pub all_there : {A : Type 0} (P : A → Type 0) (xs : List A) → ((i : ℕ) (x : A) → slice_get xs i ≡ Some x → P x) → All P xs
all_there P xs one = λ k d lt. one k (get_or xs k d) (slice_get-get_or xs k d lt)

-- what holds of all holds of each
pub at_each : {A : Type 0} (P : A → Type 0) (xs : List A) (k : ℕ) (d : A) → AllByRecursion P xs → k < length xs → P (get_or xs k d)
at_each P [] k d h inside = absurd (omega (arith, inside))
at_each P (x ∷ xs) zero d h inside = h.0
at_each P (x ∷ xs) (suc k) d h inside = at_each P xs k d h.1 (omega (arith, inside))

-- a test that none passes
pub any_not : {A : Type 0} (f : A → Bool) (xs : List A) (i : ℕ) (x : A) → list_any f xs ≡ false → slice_get xs i ≡ Some x → f x ≡ false
any_not f [] i x none is = absurd (let no : None ≡ Some x = is in cc)
any_not f (y ∷ ys) zero x none is = let same : y ≡ x = cc in subst (λ z. f z ≡ false) same (or_parts (f y) (list_any f ys) none).0
any_not f (y ∷ ys) (suc i) x none is = any_not f ys i x (or_parts (f y) (list_any f ys) none).1 is
