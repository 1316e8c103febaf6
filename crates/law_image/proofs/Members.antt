-- Members of lists by index, and the numbers of entries as sums.
use Rattle.std.proofs.Common.{ℕ, zero, suc, ◌≡◌, ◌+◌, List, [], ◌∷◌, length, map, take, Some, slice_get, refl, ap, subst, arith}
use Rattle.std.specs.List.{AllByRecursion}
use Rattle.def_image.specs.Sizes.{sum_of}
use Rattle.def_image.specs.Members.{number_in}

pub map_at : {A B : Type 0} (f : A → B) (xs : List A) (i : ℕ) (x : A) → slice_get xs i ≡ Some x → slice_get (map f xs) i ≡ Some (f x)
map_at f [] i x is = cc
map_at f (y ∷ ys) zero x is = let same : y ≡ x = cc in ap (λ z. Some (f z)) same
map_at f (y ∷ ys) (suc i) x is = map_at f ys i x is

pub all_at : {A : Type 0} (P : A → Type 0) (xs : List A) (i : ℕ) (x : A) → AllByRecursion P xs → slice_get xs i ≡ Some x → P x
all_at P [] i x h is = cc
all_at P (y ∷ ys) zero x h is = let same : y ≡ x = cc in subst P same h.0
all_at P (y ∷ ys) (suc i) x h is = all_at P ys i x h.1 is

pub all_back : {A B : Type 0} (P : B → Type 0) (f : A → B) (xs : List A) (i : ℕ) (x : A) → AllByRecursion P (map f xs) → slice_get xs i ≡ Some x → P (f x)
all_back P f xs i x h is = all_at P (map f xs) i (f x) h (map_at f xs i x is)

pub taken : {A : Type 0} (xs : List A) (i : ℕ) (x : A) → slice_get xs i ≡ Some x → length (take i xs) ≡ i
taken [] i x is = cc
taken (y ∷ ys) zero x is = refl
taken (y ∷ ys) (suc i) x is = ap suc (taken ys i x is)

pub map_taken : {A B : Type 0} (f : A → B) (xs : List A) (i : ℕ) → take i (map f xs) ≡ map f (take i xs)
map_taken f [] zero = refl
map_taken f [] (suc i) = refl
map_taken f (y ∷ ys) zero = refl
map_taken f (y ∷ ys) (suc i) = ap (λ l. f y ∷ l) (map_taken f ys i)

pub sum_map : {A B : Type 0} (g : B → ℕ) (f : A → B) (h : A → ℕ) (xs : List A) → ((x : A) → g (f x) ≡ h x) → sum_of g (map f xs) ≡ sum_of h xs
sum_map g f h [] same = refl
sum_map g f h (x ∷ xs) same = let a = same x in let b = sum_map g f h xs same in cc

pub number_is : {A : Type 0} (entries : A → ℕ) (n : ℕ) (xs : List A) (i : ℕ) (x : A) → slice_get xs i ≡ Some x → number_in entries n xs i ≡ n + sum_of entries (take i xs)
number_is entries n [] i x is = cc
number_is entries n (y ∷ ys) zero x is = omega arith
number_is entries n (y ∷ ys) (suc i) x is = let rest = number_is entries (n + entries y) ys i x is in omega (arith, rest)
