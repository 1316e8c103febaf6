-- A table of words, row by row.
use Rattle.std.proofs.Common.{◌≡◌, ℕ, ◌+◌, ◌<◌, List, ◌∷◌, length, drop, get_or, true, false, cond, Some, refl, sym, ap, ◌∙◌, drop-cons, add-one, suc}
use Rattle.std.specs.Str.{bytes_eq}
use Rattle.def_desc.specs.Members.{says}

-- what the rows from i on say, where x is row i
named_at : {R A : Type 0} (named : R → List ℕ) (value : R → A) (name : List ℕ) (rows : List R) (i : ℕ) (x : R) → i < length rows → x ≡ get_or rows i x → says named value name (drop i rows) ≡ cond (bytes_eq name (named x)) (Some (value x)) (says named value name (drop (i + 1) rows))
named_at named value name rows i x h is =
    let here : drop i rows ≡ x ∷ drop (i + 1) rows = rw (add-one, drop-cons rows i x) (ap (λ y. y ∷ drop (suc i) rows) (sym is)) in
    rw here refl

pub named_here : {R A : Type 0} (named : R → List ℕ) (value : R → A) (name : List ℕ) (rows : List R) (i : ℕ) (x : R) → i < length rows → x ≡ get_or rows i x → bytes_eq name (named x) ≡ true → says named value name (drop i rows) ≡ Some (value x)
named_here named value name rows i x h is e = named_at named value name rows i x h is ∙ ap (λ b. cond b (Some (value x)) (says named value name (drop (i + 1) rows))) e

pub named_later : {R A : Type 0} (named : R → List ℕ) (value : R → A) (name : List ℕ) (rows : List R) (i : ℕ) (x : R) → i < length rows → x ≡ get_or rows i x → bytes_eq name (named x) ≡ false → says named value name (drop i rows) ≡ says named value name (drop (i + 1) rows)
named_later named value name rows i x h is e = named_at named value name rows i x h is ∙ ap (λ b. cond b (Some (value x)) (says named value name (drop (i + 1) rows))) e
