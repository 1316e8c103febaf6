-- The row of numbers goes on, and so does a list that is made from it.
use Rattle.std.proofs.Common.{◌≡◌, ℕ, ◌+◌, List, [], ◌∷◌, ◌++◌, map, refl, ap, sym, ◌∙◌, arith, add-one}
use Rattle.std.specs.List.{range_with_len}
use Rattle.std.proofs.lemmas.List.FromFn.{map-range_with_len_more}
use Rattle.def_gen.specs.Numbers.{following, x_at}

pub x_first : (seed : ℕ) → seed ≡ x_at seed 0
unfolding x_at
x_first seed = refl

pub x_next : (seed i x : ℕ) → x ≡ x_at seed i → following x ≡ x_at seed (i + 1)
unfolding x_at
x_next seed i x e = rw (add-one i) (ap following e)

pub one_more : {A : Type 0} (f : ℕ → A) (i : ℕ) (old new : List A) (y : A) → old ≡ map f (range_with_len 0 i) → new ≡ old ++ y ∷ [] → y ≡ f i
    → new ≡ map f (range_with_len 0 (i + 1))
one_more f i old new y e n h =
    n ∙ ap (λ o. o ++ y ∷ []) e ∙ ap (λ z. map f (range_with_len 0 i) ++ z ∷ []) h ∙ sym (map-range_with_len_more f 0 i i (omega arith))
