-- Names that are kept once each: the same names are among them.
use Rattle.std.proofs.Common.{◌≡◌, ℕ, List, [], ◌∷◌, ◌||◌, ◌++◌, Bool, true, false, cond, refl, ap, sym, ◌∙◌}
use Rattle.std.specs.Prelude.{bytes_eq}
use Rattle.std.proofs.lemmas.Slice.Eq.{bytes_eq-Decides}
use Rattle.std.proofs.Math.Bool.{or-false}
use Rattle.def_texts.specs.Names.{among, with_name, with_names}

or_assoc : (a b c : Bool) → ((a || b) || c) ≡ (a || (b || c))
or_assoc true b c = refl
or_assoc false b c = refl

or_true : (a : Bool) → (a || true) ≡ true
or_true true = refl
or_true false = refl

among_end : (x : List ℕ) (names : List (List ℕ)) (name : List ℕ) → among x (names ++ name ∷ []) ≡ (among x names || bytes_eq x name)
among_end x [] name = or-false (bytes_eq x name)
among_end x (n ∷ names) name = ap (λ b. bytes_eq x n || b) (among_end x names name) ∙ sym (or_assoc (bytes_eq x n) (among x names) (bytes_eq x name))

-- a name that is among them already
name_again : (x name : List ℕ) (seen : List (List ℕ)) → among name seen ≡ true → among x seen ≡ (among x seen || bytes_eq x name)
name_again x name seen there = by_test (bytes_eq x name) refl
  where
    by_test : (b : Bool) → bytes_eq x name ≡ b → among x seen ≡ (among x seen || b)
    by_test false e = sym (or-false (among x seen))
    by_test true e = ap (λ y. among y seen) ((bytes_eq-Decides x name).0 e) ∙ there ∙ sym (or_true (among x seen))

with_one : (x : List ℕ) (seen : List (List ℕ)) (name : List ℕ) → among x (with_name seen name) ≡ (among x seen || bytes_eq x name)
with_one x seen name = by_test (among name seen) refl
  where
    by_test : (b : Bool) → among name seen ≡ b → among x (cond b seen (seen ++ name ∷ [])) ≡ (among x seen || bytes_eq x name)
    by_test true e = name_again x name seen e
    by_test false e = among_end x seen name

once : (x : List ℕ) (seen names : List (List ℕ)) → among x (with_names seen names) ≡ (among x seen || among x names)
once x seen [] = sym (or-false (among x seen))
once x seen (n ∷ names) =
    once x (with_name seen n) names ∙ ap (λ b. b || among x names) (with_one x seen n)
    ∙ or_assoc (among x seen) (bytes_eq x n) (among x names)

pub among_once : (x : List ℕ) (names : List (List ℕ)) → among x (with_names [] names) ≡ among x names
among_once x names = once x [] names

pub with_names_append : (seen a b : List (List ℕ)) → with_names seen (a ++ b) ≡ with_names (with_names seen a) b
with_names_append seen [] b = refl
with_names_append seen (n ∷ a) b = with_names_append (with_name seen n) a b
