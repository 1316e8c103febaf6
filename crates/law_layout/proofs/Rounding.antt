-- The rounded length is the least that needs no rounding.
use Rattle.std.proofs.Common.{ℕ, zero, suc, ◌+◌, ◌-◌, ◌*◌, ◌%◌, ◌^◌, ◌<◌, ◌≤◌, ◌≡◌, ◌==◌, true, refl, ap, sym, subst, ◌∙◌, arith, inl, inr}
use Rattle.std.proofs.lemmas.Bool.{and_parts, eqb-true}
use Rattle.std.proofs.lemmas.Nat.{pow_pos, mul-le}
use Rattle.std.proofs.Math.Nat.{mul-mod_left, add-mul-mod_self_right}
use Rattle.def_profile.specs.declared.bounds.TheConstants.{WIDEST_EXPONENT, MOST_UNITS}
use Rattle.law_lists.proofs.Tests.{le_tells}
use Rattle.def_words.specs.LeastBounds.{floor_units, ceil_units, units, exponent_for, rounded_of, round_length_of, alignment_of}
use Rattle.law_words.proofs.Leasts.{exponent_is, ceil_le, ceil_above, floor_under, finer}
use Rattle.law_words.proofs.Exacts.{no_larger, exact_flag}
use Rattle.law_layout.proofs.Multiples.{whole_of, coarser, ceil_whole}
use Rattle.law_layout.proofs.Placing.{exact_units}
use Rattle.def_layout.specs.Exactness.{IsExactEverywhere}

nothing_below : (e : ℕ) → floor_units 0 e ≡ 0
nothing_below e = let low = floor_under 0 e in let some : 0 < 2 ^ e = pow_pos e in no_product (floor_units 0 e) (2 ^ e) low some
  where
    no_product : (a b : ℕ) → a * b ≤ 0 → 0 < b → a ≡ 0
    no_product zero b le some = refl
    no_product (suc a) b le some = absurd (let more : 1 * b ≤ suc a * b = mul-le 1 b (suc a) b (omega arith) (omega arith) in omega (arith, le, some, more))

-- ---- a longer length has no smaller exponent

ceil_grows : (n m e : ℕ) → n ≤ m → ceil_units n e ≤ ceil_units m e
ceil_grows n m e le = let above : m ≤ ceil_units m e * 2 ^ e = ceil_above m e in ceil_le n (ceil_units m e) e (omega (arith, le, above))

exponent_grows : (n m : ℕ) → n ≤ m → exponent_for 0 n ≤ exponent_for 0 m
exponent_grows n m le = elim (le_tells (exponent_for 0 n) (exponent_for 0 m)) [
  | inl t ↦ t.1
  | inr t ↦ absurd (elim (exponent_is 0 m).serves [
    | inl s ↦
        let fails : 511 < units 0 n (exponent_for 0 m) = (exponent_is 0 n).least (exponent_for 0 m) t.1 s.0 in
        let serves : units 0 m (exponent_for 0 m) ≤ 511 = s.1 in
        let grows : ceil_units n (exponent_for 0 m) ≤ ceil_units m (exponent_for 0 m) = ceil_grows n m (exponent_for 0 m) le in
        omega (arith, fails, serves, grows)
    | inr is ↦ elim (exponent_is 0 n).serves [
      | inl s ↦ let small = s.0 in let less = t.1 in omega (arith, small, is, less)
      | inr same ↦ let less = t.1 in omega (arith, same, is, less)
    ]
  ])
]

-- ---- the rounded length has the exponent of the length

few_units : (n : ℕ) → units 0 n (exponent_for 0 n) ≤ MOST_UNITS → ceil_units n (exponent_for 0 n) ≤ MOST_UNITS
few_units n few = let none : floor_units 0 (exponent_for 0 n) ≡ 0 = nothing_below (exponent_for 0 n) in omega (arith, few, none)

same_exponent : (n : ℕ) → exponent_for 0 (round_length_of n) ≡ exponent_for 0 n
same_exponent n =
    let up : exponent_for 0 n ≤ exponent_for 0 (round_length_of n) = exponent_grows n (round_length_of n) (ceil_above n (exponent_for 0 n)) in
    elim (exponent_is 0 n).serves [
      | inl s ↦
          let few : ceil_units n (exponent_for 0 n) ≤ MOST_UNITS = few_units n s.1 in
          let own : ceil_units (round_length_of n) (exponent_for 0 n) ≤ ceil_units n (exponent_for 0 n) = ceil_le (round_length_of n) (ceil_units n (exponent_for 0 n)) (exponent_for 0 n) (omega arith) in
          let down : exponent_for 0 (round_length_of n) ≤ exponent_for 0 n = no_larger 0 (round_length_of n) (exponent_for 0 n) s.0 (omega (arith, own, few)) in
          omega (arith, up, down)
      | inr is ↦ elim (exponent_is 0 (round_length_of n)).serves [
        | inl s ↦ absurd (let small = s.0 in omega (arith, up, is, small))
        | inr same ↦ same ∙ sym is
      ]
    ]

-- ---- it is exact at each multiple

exact_at : (base top e : ℕ) → base % 2 ^ e ≡ 0 → top % 2 ^ e ≡ 0 → exponent_for base top ≤ e → (rounded_of base top).exact ≡ true
exact_at base top e even ends least =
    let even_now : base % 2 ^ exponent_for base top ≡ 0 = coarser base (exponent_for base top) e least even in
    let ends_now : top % 2 ^ exponent_for base top ≡ 0 = coarser top (exponent_for base top) e least ends in
    exact_flag base top
    (whole_of base (exponent_for base top) even_now)
    (ap (λ n. n * 2 ^ exponent_for base top) (ceil_whole top (exponent_for base top) ends_now) ∙ whole_of top (exponent_for base top) ends_now)

widest_last : (base top : ℕ) → exponent_for base top ≤ WIDEST_EXPONENT
widest_last base top = elim (exponent_is base top).serves [
  | inl s ↦ let small = s.0 in omega (arith, small)
  | inr is ↦ omega (arith, is)
]

-- so many units of 2^e from a multiple of 2^e on
exact_from : (n k : ℕ) → (rounded_of (k * 2 ^ exponent_for 0 n) (k * 2 ^ exponent_for 0 n + round_length_of n)).exact ≡ true
exact_from n k =
    let e = exponent_for 0 n in
    let even : (k * 2 ^ exponent_for 0 n) % 2 ^ exponent_for 0 n ≡ 0 = mul-mod_left k (2 ^ exponent_for 0 n) in
    elim (exponent_is 0 n).serves [
      | inl s ↦ exact_units (k * 2 ^ exponent_for 0 n) (ceil_units n (exponent_for 0 n)) (exponent_for 0 n) s.0 even (few_units n s.1)
      | inr is ↦
          let ends : (k * 2 ^ exponent_for 0 n + round_length_of n) % 2 ^ exponent_for 0 n ≡ 0 = add-mul-mod_self_right (k * 2 ^ exponent_for 0 n) (ceil_units n (exponent_for 0 n)) (2 ^ exponent_for 0 n) ∙ even in
          let last = widest_last (k * 2 ^ exponent_for 0 n) (k * 2 ^ exponent_for 0 n + round_length_of n) in
          exact_at (k * 2 ^ exponent_for 0 n) (k * 2 ^ exponent_for 0 n + round_length_of n) (exponent_for 0 n) even ends (omega (arith, last, is))
    ]

pub rounded_exact : (n : ℕ) → IsExactEverywhere (round_length_of n)
rounded_exact n k within = subst (λ e. (rounded_of (k * 2 ^ e) (k * 2 ^ e + round_length_of n)).exact ≡ true) (sym (same_exponent n)) (exact_from n k)

-- ---- none between is

-- a length that is exact at address 0 is a multiple of its own alignment
whole_length : (m : ℕ) → m ≤ 2 ^ 32 → IsExactEverywhere m → ceil_units m (exponent_for 0 m) * 2 ^ exponent_for 0 m ≡ m
whole_length m fits exact =
    let none : 0 * alignment_of m ≡ 0 = omega arith in
    let first : (rounded_of (0 * alignment_of m) (0 * alignment_of m + m)).exact ≡ true = exact 0 (omega (arith, none, fits)) in
    let at_zero : (rounded_of 0 (0 + m)).exact ≡ true = subst (λ b. (rounded_of b (b + m)).exact ≡ true) none first in
    let same : 0 + m ≡ m = omega arith in
    let here : (rounded_of 0 m).exact ≡ true = subst (λ t. (rounded_of 0 t).exact ≡ true) same at_zero in
    eqb-true (ceil_units m (exponent_for 0 m) * 2 ^ exponent_for 0 m) m (and_parts (floor_units 0 (exponent_for 0 m) * 2 ^ exponent_for 0 m == 0) (ceil_units m (exponent_for 0 m) * 2 ^ exponent_for 0 m == m) here).1

pub rounded_least : (n m : ℕ) → m ≤ 2 ^ 32 → n ≤ m → IsExactEverywhere m → round_length_of n ≤ m
rounded_least n m fits le exact =
    let whole : ceil_units m (exponent_for 0 m) * 2 ^ exponent_for 0 m ≡ m = whole_length m fits exact in
    let split : ceil_units m (exponent_for 0 m) * 2 ^ exponent_for 0 m ≡ (ceil_units m (exponent_for 0 m) * 2 ^ (exponent_for 0 m - exponent_for 0 n)) * 2 ^ exponent_for 0 n = finer (exponent_for 0 n) (exponent_for 0 m) (ceil_units m (exponent_for 0 m)) (exponent_grows n m le) in
    by (ceil_units m (exponent_for 0 m) * 2 ^ (exponent_for 0 m - exponent_for 0 n)) (sym split ∙ whole)
  where
    by : (k : ℕ) → k * 2 ^ exponent_for 0 n ≡ m → round_length_of n ≤ m
    by k is =
        let few : ceil_units n (exponent_for 0 n) ≤ k = ceil_le n k (exponent_for 0 n) (omega (arith, le, is)) in
        let scaled : ceil_units n (exponent_for 0 n) * 2 ^ exponent_for 0 n ≤ k * 2 ^ exponent_for 0 n = mul-le (ceil_units n (exponent_for 0 n)) (2 ^ exponent_for 0 n) k (2 ^ exponent_for 0 n) few (omega arith) in
        omega (arith, scaled, is)

pub rounded_above : (n : ℕ) → n ≤ round_length_of n
rounded_above n = ceil_above n (exponent_for 0 n)
