-- Where a line and its comment end.
use Rattle.std.proofs.Common.{◌≡◌, ℕ, zero, suc, ◌<◌, List, [], ◌∷◌, length, take, drop, Bool, true, false, cond, refl, sym, ap, ◌∙◌, arith, ◌==◌}
use Rattle.def_source.specs.Source.{lines_of, before, before_comment}
use Rattle.ct_source.specs.Runs.{len_before}

len_is : (stop c : ℕ) (cs : List ℕ) (b : Bool) → (c == stop) ≡ b → len_before stop (c ∷ cs) ≡ cond b 0 (suc (len_before stop cs))
len_is stop c cs b e = ap (λ x. cond x 0 (suc (len_before stop cs))) e

-- what stands before the number sign
pub to_comment : (line : List ℕ) → take (len_before 35 line) line ≡ before_comment line
to_comment [] = refl
to_comment (c ∷ cs) = by_first c cs (c == 35) refl (to_comment cs)
  where
    by_first : (c : ℕ) (cs : List ℕ) (b : Bool) → (c == 35) ≡ b → take (len_before 35 cs) cs ≡ before_comment cs → take (len_before 35 (c ∷ cs)) (c ∷ cs) ≡ before_comment (c ∷ cs)
    by_first c cs true e more = ap (λ n. take n (c ∷ cs)) (len_is 35 c cs true e) ∙ sym (ap (λ b. cond b [] (c ∷ before_comment cs)) e)
    by_first c cs false e more = ap (λ n. take n (c ∷ cs)) (len_is 35 c cs false e) ∙ ap (λ x. c ∷ x) more ∙ sym (ap (λ b. cond b [] (c ∷ before_comment cs)) e)

lines_are : (c : ℕ) (cs : List ℕ) (b : Bool) → (c == 10) ≡ b → lines_of (c ∷ cs) ≡ cond b ([] ∷ lines_of cs) (before c (lines_of cs))
lines_are c cs b e = ap (λ x. cond x ([] ∷ lines_of cs) (before c (lines_of cs))) e

by_first_line : (c : ℕ) (cs : List ℕ) (b : Bool) → (c == 10) ≡ b → before c (lines_of cs) ≡ (c ∷ take (len_before 10 cs) cs) ∷ lines_of (drop (suc (len_before 10 cs)) cs) → lines_of (c ∷ cs) ≡ take (len_before 10 (c ∷ cs)) (c ∷ cs) ∷ lines_of (drop (suc (len_before 10 (c ∷ cs))) (c ∷ cs))
by_first_line c cs true e more = lines_are c cs true e ∙ ap (λ n. take n (c ∷ cs) ∷ lines_of (drop (suc n) (c ∷ cs))) (sym (len_is 10 c cs true e))
by_first_line c cs false e more = lines_are c cs false e ∙ more ∙ ap (λ n. take n (c ∷ cs) ∷ lines_of (drop (suc n) (c ∷ cs))) (sym (len_is 10 c cs false e))

-- a text's first line, and the lines after its line feed
line_ends : (c : ℕ) (cs : List ℕ) → lines_of (c ∷ cs) ≡ take (len_before 10 (c ∷ cs)) (c ∷ cs) ∷ lines_of (drop (suc (len_before 10 (c ∷ cs))) (c ∷ cs))
line_ends c [] = by_first_line c [] (c == 10) refl refl
line_ends c (d ∷ ds) = by_first_line c (d ∷ ds) (c == 10) refl (ap (before c) (line_ends d ds))

one_more : (n : ℕ) (xs : List ℕ) → drop 1 (drop n xs) ≡ drop (suc n) xs
one_more zero xs = refl
one_more (suc n) [] = refl
one_more (suc n) (x ∷ xs) = one_more n xs

pub first_of_lines : (text line rest : List ℕ) (n : ℕ) → 0 < length text → n ≡ len_before 10 text → line ≡ take n text → rest ≡ drop n text → lines_of text ≡ line ∷ lines_of (drop 1 rest)
first_of_lines [] line rest n some e l r = absurd (omega (arith, some))
first_of_lines (c ∷ cs) line rest n some e l r =
    let after : drop 1 rest ≡ drop (suc n) (c ∷ cs) = ap (drop 1) r ∙ one_more n (c ∷ cs) in
    rw (l, after, e) (line_ends c cs)

-- the last line, after which nothing stands
pub last_of_lines : (text line rest : List ℕ) (n : ℕ) → 0 < length text → n ≡ len_before 10 text → line ≡ take n text → rest ≡ drop n text → length rest ≡ 0 → lines_of text ≡ line ∷ lines_of rest
last_of_lines text line [] n some e l r none = first_of_lines text line [] n some e l r
last_of_lines text line (x ∷ xs) n some e l r none = absurd (omega (arith, none))
