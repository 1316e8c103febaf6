-- Regions by their places in a list.
use Rattle.std.proofs.Common.{ℕ, zero, suc, ◌≡◌, ◌+◌, List, [], ◌∷◌, drop, get_or, refl, sym, ap, ◌∙◌, arith}
use Rattle.std.proofs.lemmas.List.{get_or-drop}

pub place_past : {A : Type 0} (n : ℕ) (l : List A) (i : ℕ) (d : A) → get_or (drop n l) i d ≡ get_or l (n + i) d
place_past n l i d = get_or-drop n l i d

dropped_none : {A : Type 0} (n : ℕ) → drop {A = A} n [] ≡ []
dropped_none zero = refl
dropped_none (suc n) = refl

-- a stretch of a stretch
pub dropped : {A : Type 0} (a b : ℕ) (xs : List A) → drop b (drop a xs) ≡ drop (a + b) xs
dropped zero b xs = ap (λ n. drop n xs) (let e : b ≡ 0 + b = omega arith in e)
dropped (suc a) b [] = dropped_none b ∙ sym (dropped_none (suc a + b))
dropped (suc a) b (x ∷ xs) = dropped a b xs ∙ ap (λ n. drop n (x ∷ xs)) (let e : suc (a + b) ≡ suc a + b = omega arith in e)
