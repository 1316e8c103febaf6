-- Walks on which no check fails.
use Rattle.std.proofs.Common.{ℕ, zero, suc, ◌≡◌, ◌+◌, Bool, true, false, cond, List, [], ◌∷◌, ◌++◌, take, Some, None, slice_get, refl, sym, ap, ◌∙◌, subst, append_assoc, append-nil}
use Rattle.std.specs.List.{AllByRecursion}
use Rattle.def_image.specs.declared.Check.{Check}
use Rattle.def_image.specs.Checks.{first, walked}
use Rattle.law_image.proofs.Passing.{left_none, right_none, joined_none}

-- ---- checks

pub next_none : (x : Check) (xs : List Check) → x.fails ≡ false → first xs ≡ None → first (x ∷ xs) ≡ None
unfolding first
next_none x xs a b = ap (λ c. cond c (Some x.place) (first xs)) a ∙ b

-- each check passes
pub none_fails : (cs : List Check) → AllByRecursion (λ (c : Check). c.fails ≡ false) cs → first cs ≡ None
unfolding first
none_fails [] h = refl
none_fails (c ∷ cs) h = next_none c cs h.0 (none_fails cs h.1)

-- ---- walks

-- each member passes, whatever stands before it
pub walk_all : {A : Type 0} (P : A → Type 0) (asked : ℕ → List A → A → List Check) (size : A → ℕ)
    → ((at : ℕ) (earlier : List A) (x : A) → P x → first (asked at earlier x) ≡ None)
    → (at : ℕ) (earlier xs : List A) → AllByRecursion P xs → first (walked asked size at earlier xs) ≡ None
unfolding walked first
walk_all P asked size so at earlier [] h = refl
walk_all P asked size so at earlier (x ∷ xs) h =
    joined_none (asked at earlier x) (walked asked size (at + size x) (earlier ++ x ∷ []) xs) (so at earlier x h.0)
    (walk_all P asked size so (at + size x) (earlier ++ x ∷ []) xs h.1)

-- each member passes after those before it
pub walk_each : {A : Type 0} (asked : ℕ → List A → A → List Check) (size : A → ℕ) (at : ℕ) (earlier xs : List A)
    → ((i : ℕ) (x : A) → slice_get xs i ≡ Some x → (place : ℕ) → first (asked place (earlier ++ take i xs) x) ≡ None)
    → first (walked asked size at earlier xs) ≡ None
unfolding walked first
walk_each asked size at earlier [] h = refl
walk_each asked size at earlier (x ∷ xs) h =
    joined_none (asked at earlier x) (walked asked size (at + size x) (earlier ++ x ∷ []) xs)
    (subst (λ l. first (asked at l x) ≡ None) (append-nil earlier) (h zero x refl at))
    (walk_each asked size (at + size x) (earlier ++ x ∷ []) xs
    (λ i y is place. subst (λ l. first (asked place l y) ≡ None) (sym (append_assoc earlier (x ∷ []) (take i xs))) (h (suc i) y is place)))

-- where something holds of those before, each member passes, and it goes on to hold
pub walk_holding : {A : Type 0} (Q : List A → Type 0) (P : A → Type 0) (asked : ℕ → List A → A → List Check) (size : A → ℕ)
    → ((at : ℕ) (earlier : List A) (x : A) → Q earlier → P x → first (asked at earlier x) ≡ None)
    → ((earlier : List A) (x : A) → Q earlier → P x → Q (earlier ++ x ∷ []))
    → (at : ℕ) (earlier xs : List A) → Q earlier → AllByRecursion P xs → first (walked asked size at earlier xs) ≡ None
unfolding walked first
walk_holding Q P asked size so on at earlier [] q h = refl
walk_holding Q P asked size so on at earlier (x ∷ xs) q h =
    joined_none (asked at earlier x) (walked asked size (at + size x) (earlier ++ x ∷ []) xs) (so at earlier x q h.0)
    (walk_holding Q P asked size so on (at + size x) (earlier ++ x ∷ []) xs (on earlier x q h.0) h.1)

-- two stretches of a walk
pub walk_joined : {A : Type 0} (asked : ℕ → List A → A → List Check) (size : A → ℕ) (at : ℕ) (earlier xs ys : List A)
    → first (walked asked size at earlier xs) ≡ None
    → ((place : ℕ) → first (walked asked size place (earlier ++ xs) ys) ≡ None)
    → first (walked asked size at earlier (xs ++ ys)) ≡ None
unfolding walked
walk_joined asked size at earlier [] ys a b = subst (λ l. first (walked asked size at l ys) ≡ None) (append-nil earlier) (b at)
walk_joined asked size at earlier (x ∷ xs) ys a b =
    let own = asked at earlier x in
    let later = walked asked size (at + size x) (earlier ++ x ∷ []) xs in
    joined_none own (walked asked size (at + size x) (earlier ++ x ∷ []) (xs ++ ys)) (left_none own later a)
    (walk_joined asked size (at + size x) (earlier ++ x ∷ []) xs ys (right_none own later a)
    (λ place. subst (λ l. first (walked asked size place l ys) ≡ None) (sym (append_assoc earlier (x ∷ []) xs)) (b place)))

-- ---- lists
