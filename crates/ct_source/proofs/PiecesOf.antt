-- A text's first piece, and the pieces after it.
use Rattle.std.proofs.Common.{◌≡◌, ℕ, suc, ◌<◌, ◌≤◌, List, [], ◌∷◌, length, take, drop, Bool, true, false, ◌&&◌, not, cond, refl, sym, ap, ◌∙◌, arith}
use Rattle.def_source.specs.Source.{pieces, is_blank, is_mark, is_inner, begins_inner, before}
use Rattle.ct_source.specs.Runs.{run, begins_blank}

no_blank : (c : ℕ) → is_inner c ≡ true → is_blank c ≡ false
no_blank c h = split (is_blank c) (is_mark c) h
  where
    split : (b m : Bool) → (not b && not m) ≡ true → b ≡ false
    split true m h = sym h
    split false m h = refl

-- the pieces of a text by what its first byte is, and the byte after it
by_kind : (c : ℕ) (cs : List ℕ) (b i g : Bool) → is_blank c ≡ b → is_inner c ≡ i → begins_inner cs ≡ g → pieces (c ∷ cs) ≡ cond b (pieces cs) (cond (i && g) (before c (pieces cs)) ((c ∷ []) ∷ pieces cs))
by_kind c cs b i g hb hi hg =
    let F : Bool → Bool → Bool → List (List ℕ) = λ x y z. cond x (pieces cs) (cond (y && z) (before c (pieces cs)) ((c ∷ []) ∷ pieces cs)) in
    ap (λ x. F x (is_inner c) (begins_inner cs)) hb ∙ ap (λ y. F b y (begins_inner cs)) hi ∙ ap (λ z. F b i z) hg

run_of : (c : ℕ) (cs : List ℕ) (i : Bool) → is_inner c ≡ i → run (c ∷ cs) ≡ cond i (suc (run cs)) 0
run_of c cs i h = ap (λ y. cond y (suc (run cs)) 0) h

-- one more inner byte before a run
longer : (c d : ℕ) (ds : List ℕ) (b : Bool) → is_inner c ≡ true → is_inner d ≡ b → (is_inner d ≡ true → pieces (d ∷ ds) ≡ take (suc (run ds)) (d ∷ ds) ∷ pieces (drop (run ds) ds)) → pieces (c ∷ d ∷ ds) ≡ take (suc (run (d ∷ ds))) (c ∷ d ∷ ds) ∷ pieces (drop (run (d ∷ ds)) (d ∷ ds))
longer c d ds true h e more =
    by_kind c (d ∷ ds) false true true (no_blank c h) h e ∙ ap (before c) (more e) ∙ ap (λ n. take (suc n) (c ∷ d ∷ ds) ∷ pieces (drop n (d ∷ ds))) (sym (run_of d ds true e))
longer c d ds false h e more =
    by_kind c (d ∷ ds) false true false (no_blank c h) h e ∙ ap (λ n. take (suc n) (c ∷ d ∷ ds) ∷ pieces (drop n (d ∷ ds))) (sym (run_of d ds false e))

-- the piece of a run of inner bytes
inner_piece : (c : ℕ) (cs : List ℕ) → is_inner c ≡ true → pieces (c ∷ cs) ≡ take (suc (run cs)) (c ∷ cs) ∷ pieces (drop (run cs) cs)
inner_piece c [] h = by_kind c [] false true false (no_blank c h) h refl
inner_piece c (d ∷ ds) h = longer c d ds (is_inner d) h refl (inner_piece d ds)

-- a text that begins with a run: the run is its first piece
pub run_piece : (text : List ℕ) (n : ℕ) → n ≡ run text → 0 < n → pieces text ≡ take n text ∷ pieces (drop n text)
run_piece [] n e h = absurd (omega (arith, e, h))
run_piece (c ∷ cs) n e h = by_first c cs n (is_inner c) refl e h
  where
    by_first : (c : ℕ) (cs : List ℕ) (n : ℕ) (b : Bool) → is_inner c ≡ b → n ≡ run (c ∷ cs) → 0 < n → pieces (c ∷ cs) ≡ take n (c ∷ cs) ∷ pieces (drop n (c ∷ cs))
    by_first c cs n true k e h = inner_piece c cs k ∙ ap (λ m. take m (c ∷ cs) ∷ pieces (drop m (c ∷ cs))) (sym (e ∙ run_of c cs true k))
    by_first c cs n false k e h = absurd (omega (arith, e ∙ run_of c cs false k, h))

-- one that begins with neither a blank nor a run begins with a mark, which stands alone
pub mark_piece : (text : List ℕ) → 0 < length text → begins_blank text ≡ false → 0 ≡ run text → pieces text ≡ take 1 text ∷ pieces (drop 1 text)
mark_piece [] h b e = absurd (omega (arith, h))
mark_piece (c ∷ cs) h b e = by_first c cs (is_inner c) refl b e
  where
    by_first : (c : ℕ) (cs : List ℕ) (i : Bool) → is_inner c ≡ i → is_blank c ≡ false → 0 ≡ run (c ∷ cs) → pieces (c ∷ cs) ≡ take 1 (c ∷ cs) ∷ pieces (drop 1 (c ∷ cs))
    by_first c cs true k b e = absurd (omega (arith, e ∙ run_of c cs true k))
    by_first c cs false k b e = by_kind c cs false false (begins_inner cs) b k refl

pub run_within : (text : List ℕ) → run text ≤ length text
run_within [] = omega arith
run_within (c ∷ cs) = by_first c cs (is_inner c) refl (run_within cs)
  where
    by_first : (c : ℕ) (cs : List ℕ) (i : Bool) → is_inner c ≡ i → run cs ≤ length cs → run (c ∷ cs) ≤ length (c ∷ cs)
    by_first c cs true k h = omega (arith, run_of c cs true k, h)
    by_first c cs false k h = omega (arith, run_of c cs false k)
