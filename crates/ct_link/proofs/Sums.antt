-- Numbers of entries and sizes of areas, summed up to an index.
use Rattle.std.proofs.Common.{ℕ, zero, suc, ◌≡◌, ◌+◌, ◌<◌, List, [], ◌∷◌, length, take, get_or, refl, ap, ◌∙◌, arith}
use Rattle.def_image.specs.Sizes.{sum_of}

sum_suc : {A : Type 0} (f : A → ℕ) (xs : List A) (k : ℕ) (d : A) → k < length xs → sum_of f (take (suc k) xs) ≡ sum_of f (take k xs) + f (get_or xs k d)
sum_suc f [] k d low = absurd (omega (arith, low))
sum_suc f (x ∷ xs) zero d low = let e : f x + 0 ≡ 0 + f x = omega arith in e
sum_suc f (x ∷ xs) (suc k) d low = let rest = sum_suc f xs k d (omega (arith, low)) in omega (arith, rest)

pub sum_more : {A : Type 0} (f : A → ℕ) (xs : List A) (k : ℕ) (d : A) → k < length xs → sum_of f (take (k + 1) xs) ≡ sum_of f (take k xs) + f (get_or xs k d)
sum_more f xs k d low =
    let on : k + 1 ≡ suc k = omega arith in
    ap (λ n. sum_of f (take n xs)) on ∙ sum_suc f xs k d low

-- a number that has grown by an element's is that of one element more
pub sum_grown : {A : Type 0} (f : A → ℕ) (xs : List A) (k : ℕ) (d x : A) (base old n : ℕ) → old ≡ base + sum_of f (take k xs) → k < length xs → x ≡ get_or xs k d → n ≡ f x
    → old + n ≡ base + sum_of f (take (k + 1) xs)
sum_grown f xs k d x base old n so low is made =
    added base (sum_of f (take k xs)) (f (get_or xs k d)) old n (sum_of f (take (k + 1) xs)) so (made ∙ ap f is) (sum_more f xs k d low)
  where
    added : (b s e old n all : ℕ) → old ≡ b + s → n ≡ e → all ≡ s + e → old + n ≡ b + all
    added b s e old n all so made whole = omega (arith, so, made, whole)
