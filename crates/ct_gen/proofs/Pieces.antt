-- The pieces of a source are its lines.
use Rattle.std.proofs.Common.{◌≡◌, ℕ, Bool, List, [], ◌∷◌, ◌++◌, codes, decimal, refl, ap, sym, ◌∙◌, append_assoc}
use Rattle.std.specs.List.{flat_map}
use Rattle.def_gen.specs.Sources.{line, opening, passing_unless, closing, source_with}

lines_joined : (xs ys : List (List ℕ)) → flat_map line (xs ++ ys) ≡ flat_map line xs ++ flat_map line ys
lines_joined [] ys = refl
lines_joined (x ∷ xs) ys = ap (λ t. line x ++ t) (lines_joined xs ys) ∙ sym (append_assoc (line x) (flat_map line xs) (flat_map line ys))

-- a line with a number, between two texts that end and begin lines
number_line : (before after begin : List ℕ) (n : ℕ) → after ≡ 10 ∷ begin → before ++ decimal n ++ after ≡ before ++ ((decimal n ++ 10 ∷ []) ++ begin)
number_line before after begin n e =
    append_assoc before (decimal n) after
    ∙ ap (λ t. before ++ (decimal n ++ t)) e
    ∙ ap (λ t. before ++ t) (sym (append_assoc (decimal n) (10 ∷ []) begin))

abbrev after_size : List ℕ
after_size = flat_map line (codes " cimport ct2, allocate" ∷ codes " cjalr cra, ct2" ∷ codes " csc ca0, 0(csp)" ∷ [])

abbrev after_index : List ℕ
after_index = flat_map line (codes " csb a0, 0(ct0)" ∷ codes " clc cra, 8(csp)" ∷ codes " cincaddrimm csp, csp, 16" ∷ codes " cret" ∷ [])

abbrev before_size : List ℕ
before_size = flat_map line (codes "go: cincaddrimm csp, csp, -16" ∷ codes " csc cra, 8(csp)" ∷ codes " cimport ca0, q" ∷ []) ++ codes " li a1, "

abbrev before_index : List ℕ
before_index =
    flat_map line (codes " clc ca1, 0(csp)" ∷ codes " cimport ca0, q" ∷ codes " cimport ct2, free" ∷ codes " cjalr cra, ct2" ∷ codes " cimport ct0, uart" ∷ [])
    ++ codes " li a0, "

pub opened : (before after : List ℕ) (size : ℕ) → before ≡ before_size → after ≡ 10 ∷ after_size → before ++ decimal size ++ after ≡ flat_map line (opening size)
opened before after size b a = ap (λ t. t ++ decimal size ++ after) b ∙ number_line before_size after after_size size a

pub closed : (before after : List ℕ) (i : ℕ) → before ≡ before_index → after ≡ 10 ∷ after_index → before ++ decimal i ++ after ≡ flat_map line (closing i)
closed before after i b a = ap (λ t. t ++ decimal i ++ after) b ∙ number_line before_index after after_index i a

pub whole : (last : Bool) (size i : ℕ) → flat_map line (opening size) ++ flat_map line (passing_unless last) ++ flat_map line (closing i) ≡ source_with last size i
whole last size i =
    ap (λ t. t ++ flat_map line (closing i)) (sym (lines_joined (opening size) (passing_unless last)))
    ∙ sym (lines_joined (opening size ++ passing_unless last) (closing i))
