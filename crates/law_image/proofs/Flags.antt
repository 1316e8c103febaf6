-- Whether no check of a list fails doesn't depend on their places.
use Rattle.std.proofs.Common.{ℕ, ◌≡◌, ◌+◌, Bool, true, false, cond, List, [], ◌∷◌, ◌++◌, map, Some, None, refl, sym, ap, ◌∙◌}
use Rattle.std.specs.List.{AllByRecursion}
use Rattle.def_image.specs.declared.Check.{Check}
use Rattle.def_image.specs.Checks.{first, walked}

-- which of them fail
abbrev pub flags : List Check → List Bool
flags cs = map (λ (c : Check). c.fails) cs

pub flags_both : (xs ys : List Check) → flags (xs ++ ys) ≡ flags xs ++ flags ys
flags_both [] ys = refl
flags_both (x ∷ xs) ys = ap (λ l. x.fails ∷ l) (flags_both xs ys)

-- two lists with the same flags
pub joined : (a b x y : List Check) → flags a ≡ flags x → flags b ≡ flags y → flags (a ++ b) ≡ flags (x ++ y)
joined a b x y e f = flags_both a b ∙ ap (λ l. l ++ flags b) e ∙ ap (λ l. flags x ++ l) f ∙ sym (flags_both x y)

none_among : (cs : List Check) → first cs ≡ None → AllByRecursion (λ b. b ≡ false) (flags cs)
unfolding first
none_among [] e = tt
none_among (c ∷ cs) e = by c.fails refl e (λ rest. none_among cs rest)
  where
    by : (b : Bool) → c.fails ≡ b → cond b (Some c.place) (first cs) ≡ None → (first cs ≡ None → AllByRecursion (λ x. x ≡ false) (flags cs))
        → (c.fails ≡ false) × AllByRecursion (λ x. x ≡ false) (flags cs)
    by true is f later = absurd (let clash : Some c.place ≡ None = f in cc)
    by false is f later = (is, later f)

pub none_of : (cs : List Check) → AllByRecursion (λ b. b ≡ false) (flags cs) → first cs ≡ None
unfolding first
none_of [] h = refl
none_of (c ∷ cs) h = rw h.0 (none_of cs h.1)

pub none_alike : (xs ys : List Check) → flags xs ≡ flags ys → first xs ≡ None → first ys ≡ None
none_alike xs ys e none = none_of ys (moved (flags xs) (flags ys) e (none_among xs none))
  where
    moved : (a b : List Bool) → a ≡ b → AllByRecursion (λ x. x ≡ false) a → AllByRecursion (λ x. x ≡ false) b
    moved a b is h = rw (sym is) h

-- walks that ask alike at any places
pub walks_alike : {A : Type 0} (asked other : ℕ → List A → A → List Check) (size more : A → ℕ) → ((at place : ℕ) (earlier : List A) (x : A) → flags (asked at earlier x) ≡ flags (other place earlier x))
    → (at place : ℕ) (earlier xs : List A) → flags (walked asked size at earlier xs) ≡ flags (walked other more place earlier xs)
unfolding walked
walks_alike asked other size more one at place earlier [] = refl
walks_alike asked other size more one at place earlier (x ∷ xs) =
    joined (asked at earlier x) (walked asked size (at + size x) (earlier ++ x ∷ []) xs) (other place earlier x) (walked other more (place + more x) (earlier ++ x ∷ []) xs)
    (one at place earlier x) (walks_alike asked other size more one (at + size x) (place + more x) (earlier ++ x ∷ []) xs)
