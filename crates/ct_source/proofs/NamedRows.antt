-- A table of words, row by row.
use Rattle.std.proofs.Common.{◌≡◌, ℕ, ◌+◌, ◌<◌, List, ◌∷◌, length, drop, get_or, true, false, cond, Some, refl, sym, ap, ◌∙◌, drop-cons, add-one, suc}
use Rattle.std.specs.Str.{bytes_eq}
use Rattle.def_source.specs.Source.{first_named}

-- what the rows from i on say, where x is row i
named_at : {R A : Type 0} (named : R → List ℕ) (says : R → A) (name : List ℕ) (rows : List R) (i : ℕ) (x : R) → i < length rows → x ≡ get_or rows i x → first_named named says name (drop i rows) ≡ cond (bytes_eq name (named x)) (Some (says x)) (first_named named says name (drop (i + 1) rows))
named_at named says name rows i x h is =
    let here : drop i rows ≡ x ∷ drop (i + 1) rows = rw (add-one, drop-cons rows i x) (ap (λ y. y ∷ drop (suc i) rows) (sym is)) in
    rw here refl

pub named_here : {R A : Type 0} (named : R → List ℕ) (says : R → A) (name : List ℕ) (rows : List R) (i : ℕ) (x : R) → i < length rows → x ≡ get_or rows i x → bytes_eq name (named x) ≡ true → first_named named says name (drop i rows) ≡ Some (says x)
named_here named says name rows i x h is e = named_at named says name rows i x h is ∙ ap (λ b. cond b (Some (says x)) (first_named named says name (drop (i + 1) rows))) e

pub named_later : {R A : Type 0} (named : R → List ℕ) (says : R → A) (name : List ℕ) (rows : List R) (i : ℕ) (x : R) → i < length rows → x ≡ get_or rows i x → bytes_eq name (named x) ≡ false → first_named named says name (drop i rows) ≡ first_named named says name (drop (i + 1) rows)
named_later named says name rows i x h is e = named_at named says name rows i x h is ∙ ap (λ b. cond b (Some (says x)) (first_named named says name (drop (i + 1) rows))) e
