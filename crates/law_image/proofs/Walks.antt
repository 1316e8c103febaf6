-- The first check that fails, over two lists of checks and on a walk over a list.
use Rattle.std.proofs.Common.{ℕ, ◌≡◌, ◌+◌, ◌<◌, ◌≤◌, Bool, true, false, cond, List, [], ◌∷◌, ◌++◌, get_or, take, drop, length, Option, Some, None, refl, sym, ap, ◌∙◌, arith}
use Rattle.std.proofs.lemmas.List.{drop_more, take_more, nil_from_length, length-drop}
use Rattle.def_image.specs.declared.Check.{Check}
use Rattle.def_image.specs.Checks.{first, walked}
use Rattle.def_image.specs.Sizes.{sum_of}
use Rattle.def_image.specs.First.{first_some}

first_by : (b : Bool) (a : ℕ) (x y : Option ℕ) → cond b (Some a) (first_some x y) ≡ first_some (cond b (Some a) x) y
first_by true a x y = refl
first_by false a x y = refl

pub first_both : (xs ys : List Check) → first (xs ++ ys) ≡ first_some (first xs) (first ys)
unfolding first
first_both [] ys = refl
first_both (x ∷ xs) ys = ap (λ z. cond x.fails (Some x.place) z) (first_both xs ys) ∙ first_by x.fails x.place (first xs) (first ys)

pub or_later : (a b c : Option ℕ) → first_some (first_some a b) c ≡ first_some a (first_some b c)
or_later None b c = refl
or_later (Some n) b c = refl

pub first_here : (xs ys : List Check) (a : ℕ) → first xs ≡ Some a → first (xs ++ ys) ≡ Some a
first_here xs ys a e = first_both xs ys ∙ ap (λ z. first_some z (first ys)) e

pub first_later : (xs ys : List Check) → first xs ≡ None → first (xs ++ ys) ≡ first ys
first_later xs ys e = first_both xs ys ∙ ap (λ z. first_some z (first ys)) e

-- ---- a walk that has come to member i

abbrev pub Walks : {A : Type 0} → (ℕ → List A → A → List Check) → (A → ℕ) → ℕ → ℕ → List A → Option ℕ → Type 0
Walks asked size at i all total = first (walked asked size at (take i all) (drop i all)) ≡ total

pub goes_on : {A : Type 0} (asked : ℕ → List A → A → List Check) (size : A → ℕ) (at i : ℕ) (all : List A) (d : A) (total : Option ℕ) → i < length all
    → first (asked at (take i all) (get_or all i d)) ≡ None → Walks asked size at i all total → Walks asked size (at + size (get_or all i d)) (i + 1) all total
unfolding walked
goes_on asked size at i all d total lt none so_far =
    let x = get_or all i d in
    ap (λ e. first (walked asked size (at + size (get_or all i d)) e (drop (i + 1) all))) (take_more all i d lt)
    ∙ sym (first_later (asked at (take i all) (get_or all i d)) (walked asked size (at + size (get_or all i d)) (take i all ++ get_or all i d ∷ []) (drop (i + 1) all)) none)
    ∙ ap (λ l. first (walked asked size at (take i all) l)) (sym (drop_more all i d lt))
    ∙ so_far

pub stops : {A : Type 0} (asked : ℕ → List A → A → List Check) (size : A → ℕ) (at i : ℕ) (all : List A) (d : A) (total : Option ℕ) (a : ℕ) → i < length all
    → first (asked at (take i all) (get_or all i d)) ≡ Some a → Walks asked size at i all total → total ≡ Some a
unfolding walked
stops asked size at i all d total a lt found so_far =
    sym so_far
    ∙ ap (λ l. first (walked asked size at (take i all) l)) (drop_more all i d lt)
    ∙ first_here (asked at (take i all) (get_or all i d)) (walked asked size (at + size (get_or all i d)) (take i all ++ get_or all i d ∷ []) (drop (i + 1) all)) a found

pub ends : {A : Type 0} (asked : ℕ → List A → A → List Check) (size : A → ℕ) (at i : ℕ) (all : List A) (total : Option ℕ) → length all ≤ i → Walks asked size at i all total → total ≡ None
unfolding walked first
ends asked size at i all total past so_far = sym so_far ∙ ap (λ l. first (walked asked size at (take i all) l)) (nil_from_length (drop i all) (omega (arith, length-drop i all, past)))

-- ---- the sizes of the members that are left, and of those that are passed

pub sum_left : {A : Type 0} (size : A → ℕ) (i : ℕ) (all : List A) (d : A) → i < length all → sum_of size (drop i all) ≡ size (get_or all i d) + sum_of size (drop (i + 1) all)
sum_left size i all d lt = ap (sum_of size) (drop_more all i d lt)

pub sum_end : {A : Type 0} (size : A → ℕ) (xs ys : List A) → sum_of size (xs ++ ys) ≡ sum_of size xs + sum_of size ys
sum_end size [] ys = omega arith
sum_end size (x ∷ xs) ys = let rest = sum_end size xs ys in omega (arith, rest)

pub sum_more : {A : Type 0} (size : A → ℕ) (i : ℕ) (all : List A) (d : A) → i < length all → sum_of size (take (i + 1) all) ≡ sum_of size (take i all) + size (get_or all i d)
sum_more size i all d lt =
    let last = sum_end size (take i all) (get_or all i d ∷ []) in
    let taken : sum_of size (take (i + 1) all) ≡ sum_of size (take i all ++ get_or all i d ∷ []) = ap (sum_of size) (take_more all i d lt) in
    omega (arith, last, taken)
