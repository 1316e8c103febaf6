-- What holds of every place of a list after a map, and a list that is mapped one element after another.
use Rattle.std.proofs.Common.{◌≡◌, ℕ, zero, suc, ◌+◌, ◌<◌, List, [], ◌∷◌, ◌++◌, refl, ap, arith, map, length, take, drop}
use Rattle.std.proofs.Math.ListN.{get_or, set}

pub after_map : {A : Type 0} (P : A → Type 0) (f : A → A) (xs : List A) (k : ℕ) (z : A) → P z → ((x : A) → P x → P (f x)) → P (get_or xs k z) → P (get_or (map f xs) k z)
after_map P f [] k z none goes old = none
after_map P f (x ∷ xs) zero z none goes old = goes x old
after_map P f (x ∷ xs) (suc k) z none goes old = after_map P f xs k z none goes old

-- the first n elements are mapped, the rest is as it was
abbrev pub so_far : {A : Type 0} → (A → A) → ℕ → List A → List A
so_far f n xs = map f (take n xs) ++ drop n xs

stepped : {A : Type 0} (f : A → A) (xs : List A) (n : ℕ) (d : A) → n < length xs → set (so_far f n xs) n (f (get_or (so_far f n xs) n d)) ≡ so_far f (suc n) xs
stepped f [] n d lt = absurd (omega (arith, lt))
stepped f (x ∷ xs) zero d lt = refl
stepped f (x ∷ xs) (suc n) d lt = ap (λ r. f x ∷ r) (stepped f xs n d (omega (arith, lt)))

-- the next element is mapped too
pub step : {A : Type 0} (f : A → A) (xs now : List A) (n : ℕ) (d y : A) → now ≡ so_far f n xs → n < length xs → y ≡ f (get_or now n d) → set now n y ≡ so_far f (n + 1) xs
step f xs now n d y is lt y_is =
    let next : n + 1 ≡ suc n = omega arith in
    rw (next, y_is, is) (stepped f xs n d lt)

-- what holds of the default and of the mapped element holds after the map
pub at_map : {A : Type 0} (P : A → Type 0) (f : A → A) (xs : List A) (k : ℕ) (z : A) → P z → P (f (get_or xs k z)) → P (get_or (map f xs) k z)
at_map P f [] k z none h = none
at_map P f (x ∷ xs) zero z none h = h
at_map P f (x ∷ xs) (suc k) z none h = at_map P f xs k z none h
