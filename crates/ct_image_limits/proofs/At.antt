-- A walk that has come to member i, where that member is x.
use Rattle.std.proofs.Common.{ℕ, ◌≡◌, ◌+◌, ◌<◌, List, get_or, take, drop, length, Option, Some, None, sym, ap, ◌∙◌, subst}
use Rattle.def_image.specs.declared.Check.{Check}
use Rattle.def_image.specs.Checks.{first}
use Rattle.def_image.specs.Sizes.{sum_of}
use Rattle.law_image.proofs.Walks.{Walks, goes_on, stops, sum_left, sum_more}

pub goes_at : {A : Type 0} (asked : ℕ → List A → A → List Check) (size : A → ℕ) (at i : ℕ) (all : List A) (x : A) (total : Option ℕ) → i < length all → x ≡ get_or all i x
    → first (asked at (take i all) x) ≡ None → Walks asked size at i all total → Walks asked size (at + size x) (i + 1) all total
goes_at asked size at i all x total lt is none so_far =
    subst (λ y. Walks asked size (at + size y) (i + 1) all total) (sym is)
    (goes_on asked size at i all x total lt (subst (λ y. first (asked at (take i all) y) ≡ None) is none) so_far)

pub stops_at : {A : Type 0} (asked : ℕ → List A → A → List Check) (size : A → ℕ) (at i : ℕ) (all : List A) (x : A) (total : Option ℕ) (a : ℕ) → i < length all → x ≡ get_or all i x
    → first (asked at (take i all) x) ≡ Some a → Walks asked size at i all total → total ≡ Some a
stops_at asked size at i all x total a lt is found so_far =
    stops asked size at i all x total a lt (subst (λ y. first (asked at (take i all) y) ≡ Some a) is found) so_far

pub left_at : {A : Type 0} (size : A → ℕ) (i : ℕ) (all : List A) (x : A) → i < length all → x ≡ get_or all i x → sum_of size (drop i all) ≡ size x + sum_of size (drop (i + 1) all)
left_at size i all x lt is = sum_left size i all x lt ∙ ap (λ y. size y + sum_of size (drop (i + 1) all)) (sym is)

pub more_at : {A : Type 0} (size : A → ℕ) (i : ℕ) (all : List A) (x : A) → i < length all → x ≡ get_or all i x → sum_of size (take (i + 1) all) ≡ sum_of size (take i all) + size x
more_at size i all x lt is = sum_more size i all x lt ∙ ap (λ y. sum_of size (take i all) + size y) (sym is)
