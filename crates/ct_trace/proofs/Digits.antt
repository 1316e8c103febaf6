-- Hexadecimal digits, one more at a time.
use Rattle.std.proofs.Common.{◌≡◌, ℕ, suc, ◌+◌, ◌-◌, ◌*◌, ◌/◌, ◌%◌, ◌^◌, ◌<◌, ◌≤◌, List, [], ◌∷◌, ◌++◌, refl, ap, ◌∙◌, arith}
use Rattle.std.proofs.lemmas.Nat.{shr-shr}
use Rattle.def_trace.specs.Trace.{hexadecimal, hexadecimal_digit}

-- the digits of a number's front, where so many of all digits have come
unfoldable pub front : ℕ → ℕ → ℕ → List ℕ
front digits place value = hexadecimal place (value / 2 ^ (4 * (digits - place)))

one_more : (place n : ℕ) → hexadecimal (place + 1) n ≡ hexadecimal place (n / 16) ++ hexadecimal_digit (n % 16) ∷ []
one_more place n = let next : place + 1 ≡ suc place = omega arith in rw next refl

pub next_digit : (digits place value : ℕ) → place < digits →
    front digits (place + 1) value ≡ front digits place value ++ hexadecimal_digit (value / 2 ^ (4 * (digits - 1 - place)) % 16) ∷ []
unfolding front
next_digit digits place value h =
    let here : 4 * (digits - (place + 1)) ≡ 4 * (digits - 1 - place) = omega arith in
    let above : 4 * (digits - place) ≡ 4 * (digits - 1 - place) + 4 = omega (arith, h) in
    let split : value / 2 ^ (4 * (digits - 1 - place)) / 2 ^ 4 ≡ value / 2 ^ (4 * (digits - 1 - place) + 4) = shr-shr value (4 * (digits - 1 - place)) 4 in
    rw (here, above) (one_more place (value / 2 ^ (4 * (digits - 1 - place))) ∙ ap (λ n. hexadecimal place n ++ hexadecimal_digit (value / 2 ^ (4 * (digits - 1 - place)) % 16) ∷ []) split)

pub no_digit : (digits value : ℕ) → front digits 0 value ≡ []
unfolding front
no_digit digits value = refl

pub all_digits : (digits place value : ℕ) → digits ≤ place → place ≤ digits → front digits place value ≡ hexadecimal digits value
unfolding front
all_digits digits place value low high =
    let same : place ≡ digits = omega (arith, low, high) in
    let none : 4 * (digits - digits) ≡ 0 = omega arith in
    let whole : value / 2 ^ 0 ≡ value = omega arith in
    rw (same, none, whole) refl
