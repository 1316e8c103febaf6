-- A walk on which nothing fails: each member passes, with those before it known.
use Rattle.std.proofs.Common.{ℕ, zero, suc, ◌≡◌, ◌+◌, Bool, true, false, cond, List, [], ◌∷◌, ◌++◌, take, Some, None, slice_get, refl, sym, ap, subst, append_assoc}
use Rattle.std.specs.List.{AllByRecursion}
use Rattle.std.proofs.lemmas.List.{append-nil}
use Rattle.def_image.specs.declared.Check.{Check}
use Rattle.def_image.specs.Checks.{first, walked, check}

pub left_none : (xs ys : List Check) → first (xs ++ ys) ≡ None → first xs ≡ None
unfolding first
left_none [] ys e = refl
left_none (x ∷ xs) ys e = by x.fails e (λ h. left_none xs ys h)
  where
    by : (b : Bool) → cond b (Some x.place) (first (xs ++ ys)) ≡ None → (first (xs ++ ys) ≡ None → first xs ≡ None) → cond b (Some x.place) (first xs) ≡ None
    by true h rec = absurd (let clash : Some x.place ≡ None = h in cc)
    by false h rec = rec h

pub right_none : (xs ys : List Check) → first (xs ++ ys) ≡ None → first ys ≡ None
unfolding first
right_none [] ys e = e
right_none (x ∷ xs) ys e = by x.fails e (λ h. right_none xs ys h)
  where
    by : (b : Bool) → cond b (Some x.place) (first (xs ++ ys)) ≡ None → (first (xs ++ ys) ≡ None → first ys ≡ None) → first ys ≡ None
    by true h rec = absurd (let clash : Some x.place ≡ None = h in cc)
    by false h rec = rec h

-- of two lists, and of one check, on which none fails
pub joined_none : (xs ys : List Check) → first xs ≡ None → first ys ≡ None → first (xs ++ ys) ≡ None
unfolding first
joined_none [] ys a b = b
joined_none (x ∷ xs) ys a b = by x.fails a (λ h. joined_none xs ys h b)
  where
    by : (c : Bool) → cond c (Some x.place) (first xs) ≡ None → (first xs ≡ None → first (xs ++ ys) ≡ None) → cond c (Some x.place) (first (xs ++ ys)) ≡ None
    by true h rest = absurd (let clash : Some x.place ≡ None = h in cc)
    by false h rest = rest h

pub one_none : (place : ℕ) (fails : Bool) → fails ≡ false → first (check place fails ∷ []) ≡ None
unfolding first
one_none place fails a = ap (λ c. cond c (Some place) None) a

pub head_none : (x : Check) (xs : List Check) → first (x ∷ xs) ≡ None → (x.fails ≡ false) × (first xs ≡ None)
unfolding first
head_none x xs e = by x.fails refl e
  where
    by : (b : Bool) → x.fails ≡ b → cond b (Some x.place) (first xs) ≡ None → (x.fails ≡ false) × (first xs ≡ None)
    by true is h = absurd (let clash : Some x.place ≡ None = h in cc)
    by false is h = (is, h)

pub passes_from : {A : Type 0} (asked : ℕ → List A → A → List Check) (size : A → ℕ) (at : ℕ) (earlier xs : List A) → first (walked asked size at earlier xs) ≡ None
    → (i : ℕ) (x : A) → slice_get xs i ≡ Some x → (place : ℕ) × (first (asked place (earlier ++ take i xs) x) ≡ None)
unfolding walked
passes_from asked size at earlier [] e i x is = cc
passes_from asked size at earlier (y ∷ ys) e zero x is =
    let same : y ≡ x = cc in
    let here : first (asked at earlier y) ≡ None = left_none (asked at earlier y) (walked asked size (at + size y) (earlier ++ y ∷ []) ys) e in
    let none : earlier ≡ earlier ++ [] = sym (append-nil earlier) in
    (at, subst (λ z. first (asked at (earlier ++ []) z) ≡ None) same (subst (λ l. first (asked at l y) ≡ None) none here))
passes_from asked size at earlier (y ∷ ys) e (suc i) x is =
    let later = passes_from asked size (at + size y) (earlier ++ y ∷ []) ys (right_none (asked at earlier y) (walked asked size (at + size y) (earlier ++ y ∷ []) ys) e) i x is in
    (later.0, subst (λ l. first (asked later.0 l x) ≡ None) (append_assoc earlier (y ∷ []) (take i ys)) later.1)

-- of a whole list
pub passes : {A : Type 0} (asked : ℕ → List A → A → List Check) (size : A → ℕ) (at : ℕ) (xs : List A) → first (walked asked size at [] xs) ≡ None
    → (i : ℕ) (x : A) → slice_get xs i ≡ Some x → (place : ℕ) × (first (asked place (take i xs) x) ≡ None)
passes asked size at xs e i x is = passes_from asked size at [] xs e i x is

-- each check of a list passes
pub all_pass : (cs : List Check) → first cs ≡ None → AllByRecursion (λ (c : Check). c.fails ≡ false) cs
all_pass [] e = tt
all_pass (c ∷ cs) e = let h = head_none c cs e in (h.0, all_pass cs h.1)

-- what holds of each member on which nothing fails
pub every : {A : Type 0} (asked : ℕ → List A → A → List Check) (size : A → ℕ) (P : A → Type 0) → ((at : ℕ) (earlier : List A) (x : A) → first (asked at earlier x) ≡ None → P x)
    → (at : ℕ) (earlier xs : List A) → first (walked asked size at earlier xs) ≡ None → AllByRecursion P xs
unfolding walked
every asked size P one at earlier [] e = tt
every asked size P one at earlier (x ∷ xs) e =
    let later = walked asked size (at + size x) (earlier ++ x ∷ []) xs in
    (one at earlier x (left_none (asked at earlier x) later e), every asked size P one (at + size x) (earlier ++ x ∷ []) xs (right_none (asked at earlier x) later e))
