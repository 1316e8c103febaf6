-- The names of files, one code after another.
use Rattle.std.proofs.Common.{◌≡◌, ℕ, suc, ◌+◌, ◌<◌, List, [], ◌∷◌, ◌++◌, length, map, drop, get_or, Option, Some, None, refl, sym, ap, ◌∙◌, subst, arith}
use Rattle.std.proofs.Math.Seq.{drop-cons}
use Rattle.std.proofs.lemmas.List.{append_assoc, append-nil}
use Rattle.def_desc.specs.Rows.{DescCode, DescCompartment, LibraryRow, DescRow}
use Rattle.def_program.specs.Turns.{with_file, files_in, source_names}

file_first : (file : Option (List ℕ)) (old rest : List (List ℕ)) → (old ++ with_file file []) ++ rest ≡ old ++ with_file file rest
file_first None old rest = ap (λ (t : List (List ℕ)). t ++ rest) (append-nil old)
file_first (Some name) old rest = append_assoc old (name ∷ []) rest

-- the next element adds the file of its code, where it has one
pub file_next : {A : Type 0} (f : A → DescCode) (xs : List A) (i : ℕ) (d x : A) (old new whole : List (List ℕ))
    → x ≡ get_or xs i d → i < length xs → new ≡ old ++ with_file (f x).file []
    → old ++ files_in (map f (drop i xs)) ≡ whole → new ++ files_in (map f (drop (i + 1) xs)) ≡ whole
file_next f xs i d x old new whole is low added before =
    let on : suc i ≡ i + 1 = omega arith in
    let next : drop i xs ≡ x ∷ drop (i + 1) xs =
    subst (λ n. drop i xs ≡ x ∷ drop n xs) on (subst (λ y. drop i xs ≡ y ∷ drop (suc i) xs) (sym is) (drop-cons xs i d low)) in
    let here : old ++ files_in (map f (x ∷ drop (i + 1) xs)) ≡ whole =
    subst (λ ys. old ++ files_in (map f ys) ≡ whole) next before in
    ap (λ (t : List (List ℕ)). t ++ files_in (map f (drop (i + 1) xs))) added
    ∙ file_first (f x).file old (files_in (map f (drop (i + 1) xs))) ∙ here

with_both : (file : Option (List ℕ)) (a b c : List (List ℕ)) → a ≡ b ++ c → with_file file a ≡ with_file file b ++ c
with_both None a b c is = is
with_both (Some name) a b c is = ap (λ (t : List (List ℕ)). name ∷ t) is

files_both : (cs ds : List DescCode) → files_in (cs ++ ds) ≡ files_in cs ++ files_in ds
files_both [] ds = refl
files_both (c ∷ cs) ds = with_both c.file (files_in (cs ++ ds)) (files_in cs) (files_in ds) (files_both cs ds)

pub both_files : (d : DescRow) (first all : List (List ℕ))
    → first ≡ files_in (map (λ (c : DescCompartment). c.code) d.compartments)
    → all ≡ first ++ files_in (map (λ (l : LibraryRow). l.code) d.libraries) → all ≡ source_names d
both_files d first all own lent =
    lent ∙ ap (λ (t : List (List ℕ)). t ++ files_in (map (λ (l : LibraryRow). l.code) d.libraries)) own
    ∙ sym (files_both (map (λ (c : DescCompartment). c.code) d.compartments) (map (λ (l : LibraryRow). l.code) d.libraries))
