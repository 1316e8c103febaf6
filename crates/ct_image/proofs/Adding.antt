-- One more member's regions, after those of the members before it.
use Rattle.std.proofs.Common.{ℕ, ◌≡◌, ◌+◌, ◌<◌, ◌≤◌, List, [], ◌∷◌, ◌++◌, get_or, drop, length, sym, ap, ◌∙◌, append_assoc, arith}
use Rattle.std.proofs.lemmas.List.{drop_more, map-append, append-nil, nil_from_length, length-drop}
use Rattle.def_image.specs.Regions.{RegionRow}
use Rattle.ct_image.specs.declared.spans.Span.{Span}
use Rattle.ct_image.specs.Spans.{row_of, rows_of}

-- a list's regions go member by member
abbrev pub GoesBy : {A : Type 0} → (ℕ → List A → List RegionRow) → (ℕ → A → List RegionRow) → (A → ℕ) → Type 0
GoesBy {A = A} rows one size = (at : ℕ) (x : A) (xs : List A) → rows at (x ∷ xs) ≡ one at x ++ rows (at + size x) xs

pub pushed : (before now : List Span) (s : Span) → now ≡ before ++ s ∷ [] → rows_of now ≡ rows_of before ++ row_of s ∷ []
pushed before now s e = ap rows_of e ∙ map-append row_of before (s ∷ [])

pub adds : {A : Type 0} (rows : ℕ → List A → List RegionRow) (one : ℕ → A → List RegionRow) (size : A → ℕ) → GoesBy rows one size
    → (at i : ℕ) (all : List A) (x : A) (before now total : List RegionRow) → i < length all → x ≡ get_or all i x
    → now ≡ before ++ one at x → before ++ rows at (drop i all) ≡ total → now ++ rows (at + size x) (drop (i + 1) all) ≡ total
adds {A = A} rows one size by at i all x before now total lt is grown so_far =
    let opened : drop i all ≡ x ∷ drop (i + 1) all = drop_more all i x lt ∙ ap (λ (y : A). y ∷ drop (i + 1) all) (sym is) in
    ap (λ (l : List RegionRow). l ++ rows (at + size x) (drop (i + 1) all)) grown
    ∙ append_assoc before (one at x) (rows (at + size x) (drop (i + 1) all))
    ∙ ap (λ (l : List RegionRow). before ++ l) (sym (by at x (drop (i + 1) all)))
    ∙ ap (λ (l : List A). before ++ rows at l) (sym opened)
    ∙ so_far

pub added : {A : Type 0} (rows : ℕ → List A → List RegionRow) → ((at : ℕ) → rows at [] ≡ [])
    → (at i : ℕ) (all : List A) (now total : List RegionRow) → length all ≤ i → now ++ rows at (drop i all) ≡ total → now ≡ total
added {A = A} rows none at i all now total past so_far =
    let left : drop i all ≡ [] = nil_from_length (drop i all) (omega (arith, length-drop i all, past)) in
    sym (append-nil now)
    ∙ ap (λ (l : List RegionRow). now ++ l) (sym (none at))
    ∙ ap (λ (l : List A). now ++ rows at l) (sym left)
    ∙ so_far
