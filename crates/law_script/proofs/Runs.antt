-- A run of inner bytes before one that isn't, and numbers as such runs.
use Rattle.std.proofs.Common.{◌≡◌, ℕ, ◌+◌, ◌-◌, ◌*◌, ◌^◌, ◌<◌, ◌&&◌, ◌++◌, List, [], ◌∷◌, Bool, true, false, refl, ap, sym, ◌∙◌, arith, rules, decimal, nat_le}
use Rattle.std.specs.List.{list_all}
use Rattle.std.specs.Str.{all_ascii_digits}
use Rattle.std.specs.Char.{is_ascii_digit}
use Rattle.std.proofs.lemmas.List.Folds.{list_all-append}
use Rattle.std.proofs.lemmas.Str.Parse.{IsNumeralModel, numerals_by_fold}
use Rattle.std.proofs.lemmas.Fmt.{digits_decimal, decimal_injective}
use Rattle.std.proofs.lemmas.Bool.{both_ways}
use Rattle.law_lists.proofs.Tests.{both_left, both_right}
use Rattle.def_script.specs.Script.{is_field_byte}

-- two runs that the same text begins with are the same, and what follows them is
pub same_run : (p : ℕ → Bool) (xs ys : List ℕ) (a b : ℕ) (r s : List ℕ)
    → list_all p xs ≡ true → list_all p ys ≡ true → p a ≡ false → p b ≡ false
    → xs ++ a ∷ r ≡ ys ++ b ∷ s → (xs ≡ ys) × (a ≡ b) × (r ≡ s)
same_run p [] [] a b r s hx hy na nb e = (refl, cc, cc)
same_run p [] (y ∷ ys) a b r s hx hy na nb e =
    let here : a ≡ y = cc in
    absurd (both_ways (p y) (ap p (sym here) ∙ na) (both_left (p y) (list_all p ys) hy))
same_run p (x ∷ xs) [] a b r s hx hy na nb e =
    let here : x ≡ b = cc in
    absurd (both_ways (p x) (ap p here ∙ nb) (both_left (p x) (list_all p xs) hx))
same_run p (x ∷ xs) (y ∷ ys) a b r s hx hy na nb e =
    let here : x ≡ y = cc in
    let later : xs ++ a ∷ r ≡ ys ++ b ∷ s = cc in
    let rest = same_run p xs ys a b r s (both_right (p x) (list_all p xs) hx) (both_right (p y) (list_all p ys) hy) na nb later in
    (ap (λ z. z ∷ xs) here ∙ ap (λ zs. y ∷ zs) rest.0, rest.1, rest.2)

-- a text of inner bytes alone has no other
pub no_end : (p : ℕ → Bool) (xs : List ℕ) (a : ℕ) (r : List ℕ) → p a ≡ false → list_all p (xs ++ a ∷ r) ≡ false
no_end p xs a r na =
    list_all-append p xs (a ∷ r) ∙ ap (λ b. list_all p xs && (b && list_all p r)) na ∙ false_right (list_all p xs)
  where
    false_right : (b : Bool) → (b && false) ≡ false
    false_right true = refl
    false_right false = refl

-- ---- numbers

read_on : ℕ → List ℕ → ℕ
read_on n [] = n
read_on n (c ∷ cs) = read_on (10 * n + (c - 48)) cs

own : IsNumeralModel (λ ds. all_ascii_digits ds ≡ true) (read_on 0)
unfolding read_on
own = numerals_by_fold _ (search rules) read_on (search rules)

digit_is_inner : (c : ℕ) → (nat_le 48 c && nat_le c 57) ≡ true → is_field_byte c ≡ true
digit_is_inner c h = grind arith

digits_inner : (ds : List ℕ) → all_ascii_digits ds ≡ true → list_all is_field_byte ds ≡ true
digits_inner [] h = refl
digits_inner (c ∷ cs) h =
    let here : is_field_byte c ≡ true = digit_is_inner c (both_left (is_ascii_digit c) (all_ascii_digits cs) h) in
    let later : list_all is_field_byte cs ≡ true = digits_inner cs (both_right (is_ascii_digit c) (all_ascii_digits cs) h) in
    rw (here, later) refl

pub number_inner : (n : ℕ) → n < 2 ^ 64 → list_all is_field_byte (decimal n) ≡ true
number_inner n small = digits_inner (decimal n) (digits_decimal own n small)

-- the number before a space or a line feed, and what follows
pub same_number : (m n a b : ℕ) (r s : List ℕ) → m < 2 ^ 64 → n < 2 ^ 64 → is_field_byte a ≡ false → is_field_byte b ≡ false
    → decimal m ++ a ∷ r ≡ decimal n ++ b ∷ s → (m ≡ n) × (a ≡ b) × (r ≡ s)
same_number m n a b r s hm hn na nb e =
    let both = same_run is_field_byte (decimal m) (decimal n) a b r s (number_inner m hm) (number_inner n hn) na nb e in
    (decimal_injective m n hm hn both.0, both.1, both.2)
