-- The text that stands next.
use Rattle.std.proofs.Common.{ℕ, zero, suc, ◌≡◌, ◌<◌, List, [], ◌∷◌, length, map, drop, get_or, refl, arith}
use Rattle.std.specs.List.{AllByRecursion}
use Rattle.def_link.specs.Owners.{head_or_none}

pub head_at : {A : Type 0} (f : A → List ℕ) (xs : List A) (k : ℕ) (d : A) → k < length xs → f (get_or xs k d) ≡ head_or_none (drop k (map f xs))
head_at f [] k d low = absurd (omega (arith, low))
head_at f (x ∷ xs) zero d low = refl
head_at f (x ∷ xs) (suc k) d low = head_at f xs k d (omega (arith, low))

pub short_head : (P : List ℕ → Type 0) (xs : List (List ℕ)) (k : ℕ) → AllByRecursion P xs → k < length xs → P (head_or_none (drop k xs))
short_head P [] k h low = absurd (omega (arith, low))
short_head P (x ∷ xs) zero h low = h.0
short_head P (x ∷ xs) (suc k) h low = short_head P xs k h.1 (omega (arith, low))
