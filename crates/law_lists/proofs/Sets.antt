-- What holds of every place of a list, after one place was set.
use Rattle.std.proofs.Common.{◌≡◌, ℕ, zero, suc, List, [], ◌∷◌, refl, ap, arith, inl, inr}
use Rattle.std.proofs.Math.ListN.{get_or, set}
use Rattle.std.proofs.lemmas.Bool.{cases_eq}

-- what holds of what was written and of what was there holds after a write
pub after_set : {A : Type 0} (P : A → Type 0) (xs : List A) (i k : ℕ) (x z : A) → P x → P (get_or xs k z) → P (get_or (set xs i x) k z)
after_set P [] i k x z new old = old
after_set P (y ∷ ys) zero zero x z new old = new
after_set P (y ∷ ys) zero (suc k) x z new old = old
after_set P (y ∷ ys) (suc i) zero x z new old = old
after_set P (y ∷ ys) (suc i) (suc k) x z new old = after_set P ys i k x z new old

-- the same, where what is asked goes by the index
pub after_set_at : {A : Type 0} (P : ℕ → A → Type 0) (xs : List A) (i k : ℕ) (x z : A) → P i x → P k (get_or xs k z) → P k (get_or (set xs i x) k z)
after_set_at P [] i k x z new old = old
after_set_at P (y ∷ ys) zero zero x z new old = new
after_set_at P (y ∷ ys) zero (suc k) x z new old = old
after_set_at P (y ∷ ys) (suc i) zero x z new old = old
after_set_at P (y ∷ ys) (suc i) (suc k) x z new old = after_set_at (λ n. P (suc n)) ys i k x z new old

-- the same, where the old element at the place that is set needn't have the property
pub after_set_split : {A : Type 0} (P : A → Type 0) (xs : List A) (i k : ℕ) (x z : A) → (i ≡ k → P x) → (i ≡ k → get_or xs k z ≡ z → P z) → ((i ≡ k → ⊥) → P (get_or xs k z)) → P (get_or (set xs i x) k z)
after_set_split P [] i k x z new none old = elim (cases_eq i k) [ inl e ↦ none e refl | inr n ↦ old n ]
after_set_split P (y ∷ ys) zero zero x z new none old = new refl
after_set_split P (y ∷ ys) zero (suc k) x z new none old = old (λ e. cc)
after_set_split P (y ∷ ys) (suc i) zero x z new none old = old (λ e. cc)
after_set_split P (y ∷ ys) (suc i) (suc k) x z new none old =
    after_set_split P ys i k x z (λ e. new (ap (λ n. suc n) e)) (λ e. none (ap (λ n. suc n) e)) (λ n. old (λ e. n (omega (arith, e))))
