-- A row of tokens, one token longer.
use Rattle.std.proofs.Common.{◌≡◌, ℕ, List, [], ◌∷◌, ◌++◌, Option, Some, None, option_map, option_and_then, refl, sym, ap, ◌∙◌, append_assoc, take, length, ◌≤◌, ◌<◌, zero, suc, map, arith}
use Rattle.std.proofs.lemmas.List.{map-append, length-map, length-append, append-nil, take_all}
use denote.Ref.{Bor}
use Rattle.def_source.specs.declared.parts.Token.{Token}
use Rattle.def_source.specs.Source.{Row, token_of, row_of, pieces}
use Rattle.ct_source.specs.Runs.{behind, shortened}
use Rattle.ct_source.specs.Views.{token_view, row_view}

-- a token moves from the front of what follows to the end of what stands before
moved : (front : Row) (t : _) (o : Option Row) → behind front (option_map (λ ts. t ∷ ts) o) ≡ behind (front ++ t ∷ []) o
moved front t None = refl
moved front t (Some ts) = ap (λ us. Some us) (sym (append_assoc front (t ∷ []) ts))

-- ten tokens behind which others stand
take_front : {A : Type 0} (n : ℕ) (xs ys : List A) → take n (take n xs ++ ys) ≡ take n (xs ++ ys)
take_front zero xs ys = refl
take_front (suc n) [] ys = refl
take_front (suc n) (x ∷ xs) ys = ap (λ zs. x ∷ zs) (take_front n xs ys)

take_map : {A B : Type 0} (f : A → B) (n : ℕ) (xs : List A) → map f (take n xs) ≡ take n (map f xs)
take_map f zero xs = refl
take_map f (suc n) [] = refl
take_map f (suc n) (x ∷ xs) = ap (λ zs. f x ∷ zs) (take_map f n xs)

front_alone : {A : Type 0} (n : ℕ) (xs ys : List A) → length xs ≡ n → take n (xs ++ ys) ≡ xs
front_alone zero [] ys h = refl
front_alone zero (x ∷ xs) ys h = absurd (omega (arith, h))
front_alone (suc n) [] ys h = absurd (omega (arith, h))
front_alone (suc n) (x ∷ xs) ys h = ap (λ zs. x ∷ zs) (front_alone n xs ys (omega (arith, h)))

pub room : {A : Type 0} (xs : List A) (x : A) → length xs < 10 → take 10 (xs ++ x ∷ []) ≡ xs ++ x ∷ []
room xs x h = take_all 10 (xs ++ x ∷ []) (omega (arith, h, length-append xs (x ∷ [])))

pub full : {A : Type 0} (xs : List A) (x : A) → length xs ≤ 10 → 10 ≤ length xs → take 10 (xs ++ x ∷ []) ≡ xs
full xs x h k = front_alone 10 xs (x ∷ []) (omega (arith, h, k))

short_front : (xs : Row) (o : Option Row) → shortened (behind (take 10 xs) o) ≡ shortened (behind xs o)
short_front xs None = refl
short_front xs (Some ts) = ap (λ us. Some us) (take_front 10 xs ts)

pub pushed : (ts us : List (Token (Bor (List ℕ)))) (t : Token (Bor (List ℕ))) (p : List ℕ) (ps qs : List (List ℕ)) (whole : Option Row) → us ≡ take 10 (ts ++ t ∷ []) → Some (token_view t) ≡ token_of p → qs ≡ p ∷ ps → shortened (behind (row_view ts) (row_of qs)) ≡ whole → shortened (behind (row_view us) (row_of ps)) ≡ whole
pushed ts us t p ps qs whole e read cut so_far =
    let longer : row_view us ≡ take 10 (row_view ts ++ token_view t ∷ []) = ap row_view e ∙ take_map token_view 10 (ts ++ t ∷ []) ∙ ap (take 10) (map-append token_view ts (t ∷ [])) in
    let front : row_of qs ≡ option_map (λ x. token_view t ∷ x) (row_of ps) = ap row_of cut ∙ ap (λ o. option_and_then (λ x. option_map (λ xs. x ∷ xs) (row_of ps)) o) (sym read) in
    ap (λ x. shortened (behind x (row_of ps))) longer ∙ short_front (row_view ts ++ token_view t ∷ []) (row_of ps)
    ∙ ap shortened (sym (moved (row_view ts) (token_view t) (row_of ps))) ∙ ap (λ o. shortened (behind (row_view ts) o)) (sym front) ∙ so_far

-- a piece that is no token
pub refused : (ts : List (Token (Bor (List ℕ)))) (p : List ℕ) (ps qs : List (List ℕ)) (whole : Option Row) → None ≡ token_of p → qs ≡ p ∷ ps → shortened (behind (row_view ts) (row_of qs)) ≡ whole → None ≡ whole
refused ts p ps qs whole read cut so_far =
    let none : row_of qs ≡ None = ap row_of cut ∙ ap (λ o. option_and_then (λ x. option_map (λ xs. x ∷ xs) (row_of ps)) o) (sym read) in
    sym (ap (λ o. shortened (behind (row_view ts) o)) none) ∙ so_far

-- the end of the text
pub all_read : (ts : List (Token (Bor (List ℕ)))) (rest : List ℕ) (whole : Option Row) → length rest ≡ 0 → length ts ≤ 10 → shortened (behind (row_view ts) (row_of (pieces rest))) ≡ whole → Some (row_view ts) ≡ whole
all_read ts (c ∷ cs) whole e h so_far = absurd (omega (arith, e))
all_read ts [] whole e h so_far =
    sym (ap (λ us. Some us) (ap (take 10) (append-nil (row_view ts)) ∙ take_all 10 (row_view ts) (omega (arith, h, length-map ts token_view)))) ∙ so_far
