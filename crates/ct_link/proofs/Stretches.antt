-- Elements of lists by their index.
use Rattle.std.proofs.Common.{ℕ, suc, ◌≡◌, ◌+◌, ◌≤◌, ◌<◌, List, [], ◌∷◌, ◌++◌, length, take, get_or, sym, ap, ap₂, ◌∙◌, subst, arith, zero}
use Rattle.std.specs.List.{AllByRecursion}
use Rattle.std.proofs.lemmas.List.{take_all}
use Rattle.law_lists.proofs.Places.{at_each}
use Rattle.def_link.specs.Owners.{numbered}

numbered_one : {A B : Type 0} (f : ℕ → A → B) (n : ℕ) (xs : List A) (k : ℕ) (d : A) → k < length xs → numbered f n (take (suc k) xs) ≡ numbered f n (take k xs) ++ f (n + k) (get_or xs k d) ∷ []
numbered_one f n [] k d low = absurd (omega (arith, low))
numbered_one f n (x ∷ xs) zero d low = ap (λ m. f m x ∷ []) (let e : n ≡ n + 0 = omega arith in e)
numbered_one f n (x ∷ xs) (suc k) d low =
    let on : n + 1 + k ≡ n + suc k = omega arith in
    ap (λ l. f n x ∷ l) (numbered_one f (n + 1) xs k d (omega (arith, low)) ∙ ap (λ m. numbered f (n + 1) (take k xs) ++ f m (get_or xs k d) ∷ []) on)

pub numbered_more : {A B : Type 0} (f : ℕ → A → B) (n : ℕ) (xs : List A) (k : ℕ) (d : A) → k < length xs
    → numbered f n (take (k + 1) xs) ≡ numbered f n (take k xs) ++ f (n + k) (get_or xs k d) ∷ []
numbered_more f n xs k d low = ap (λ m. numbered f n (take m xs)) (let on : k + 1 ≡ suc k = omega arith in on) ∙ numbered_one f n xs k d low

-- what holds of each element holds of the one that a loop reads
pub here : {A : Type 0} (P : A → Type 0) (xs : List A) (k : ℕ) (d x : A) → AllByRecursion P xs → k < length xs → x ≡ get_or xs k d → P x
here P xs k d x h low is = subst P (sym is) (at_each P xs k d h low)

-- a place and an element of a slice are those of the same list
pub below_in : {A : Type 0} (xs ys : List A) (k : ℕ) → xs ≡ ys → k < length xs → k < length ys
below_in {A = A} xs ys k same low = subst (λ (zs : List A). k < length zs) same low

pub read_in : {A : Type 0} (xs ys : List A) (k : ℕ) (d x : A) → xs ≡ ys → x ≡ get_or xs k d → x ≡ get_or ys k d
read_in {A = A} xs ys k d x same is = is ∙ ap (λ (zs : List A). get_or zs k d) same

-- one more element of a loop, pushed at its number
pub numbered_pushed : {A B : Type 0} (f : ℕ → A → B) (n : ℕ) (xs : List A) (k at : ℕ) (d x : A) (old new : List B) (y : B) → (at ≡ n + k) × (old ≡ numbered f n (take k xs))
    → k < length xs → x ≡ get_or xs k d → y ≡ f at x → new ≡ old ++ y ∷ [] → (at + 1 ≡ n + (k + 1)) × (new ≡ numbered f n (take (k + 1) xs))
numbered_pushed f n xs k at d x old new y h low is made pushed =
    let here = h.0 in (
      omega (arith, here),
      pushed ∙ ap₂ (λ o z. o ++ z ∷ []) h.1 (made ∙ ap₂ f h.0 is) ∙ sym (numbered_more f n xs k d low),
    )

-- all of them, where the loop has ended
pub all_numbered : {A B : Type 0} (f : ℕ → A → B) (n : ℕ) (xs : List A) (k : ℕ) (items : List B) → items ≡ numbered f n (take k xs) → length xs ≤ k → items ≡ numbered f n xs
all_numbered f n xs k items h end = h ∙ ap (λ l. numbered f n l) (take_all k xs end)
