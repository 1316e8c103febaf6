-- The two exponents that a length's bits leave, over plain numbers.
use Rattle.std.proofs.Common.{ℕ, ◌+◌, ◌-◌, ◌*◌, ◌/◌, ◌%◌, ◌^◌, ◌<◌, ◌≤◌, ◌≡◌, refl, arith, ap, ◌∙◌, sym, inl, inr, lit<}
use Rattle.std.proofs.lemmas.Nat.{leading_length, pow_pos, pow-add, le-div, div-add-mod', mod_below}
use Rattle.std.proofs.Math.Nat.{pow-le-pow_right}
use Rattle.def_profile.specs.declared.bounds.TheConstants.{LAST_EXPONENT, WIDEST_EXPONENT, MOST_UNITS}
use lib.Count.{count_leading_zeros}
use Rattle.law_lists.proofs.Tests.{le_tells}
use Rattle.def_words.specs.LeastBounds.{floor_units, ceil_units, units, exponent_for}
use Rattle.law_words.proofs.Leasts.{exponent_is, unique, floor_under, ceil_le}

-- what the code knows of the first candidate
pub record IsFirst (base top e : ℕ) : Type 0 where
  pub above : top - base < 2 ^ (e + 9)
  pub below : 1 ≤ e → 2 ^ (e + 9) ≤ 2 * (top - base) + 1

-- an exponent below it gives the length more than nine bits
fails_below : (base top e k : ℕ) → base ≤ top → IsFirst base top e → k < e → MOST_UNITS < units base top k
fails_below base top e k order h less =
    let far : k + 10 ≤ e + 9 = omega (arith, less) in
    let grows : 2 ^ (k + 10) ≤ 2 ^ (e + 9) = pow-le-pow_right (lit< tt) far in
    let split : 2 ^ (k + 10) ≡ 2 ^ k * 1024 = pow-add 2 k 10 in
    let bits : 2 ^ (e + 9) ≤ 2 * (top - base) + 1 = h.below (omega (arith, less)) in
    let long : 512 * 2 ^ k ≤ top - base = omega (arith, grows, split, bits) in
    let positive : 0 < 2 ^ k = pow_pos k in
    let floor : floor_units base k * 2 ^ k ≤ base = floor_under base k in
    let reach : (floor_units base k + 512) * 2 ^ k ≤ top + 2 ^ k - 1 = omega (arith, floor, long, order, positive) in
    let many : floor_units base k + 512 ≤ ceil_units top k = le-div (floor_units base k + 512) (top + 2 ^ k - 1) (2 ^ k) positive reach in
    omega (arith, many)

-- one more serves always
next_serves : (base top e : ℕ) → base ≤ top → IsFirst base top e → units base top (e + 1) ≤ MOST_UNITS
next_serves base top e order h =
    let split : 2 ^ (e + 9) ≡ 2 ^ (e + 1) * 256 = (let same : e + 1 + 8 ≡ e + 9 = omega arith in ap (λ n. 2 ^ n) (sym same) ∙ pow-add 2 (e + 1) 8) in
    let whole : base / 2 ^ (e + 1) * 2 ^ (e + 1) + base % 2 ^ (e + 1) ≡ base = div-add-mod' base (2 ^ (e + 1)) in
    let rest : base % 2 ^ (e + 1) < 2 ^ (e + 1) = mod_below base (2 ^ (e + 1)) (pow_pos (e + 1)) in
    let under : top ≤ (floor_units base (e + 1) + 257) * 2 ^ (e + 1) = omega (arith, split, whole, rest, h.above, order) in
    let few : ceil_units top (e + 1) ≤ floor_units base (e + 1) + 257 = ceil_le top (floor_units base (e + 1) + 257) (e + 1) under in
    omega (arith, few)

pub record Found (base top e : ℕ) : Type 0 where
  pub small : e ≤ LAST_EXPONENT → e ≡ exponent_for base top
  pub large : LAST_EXPONENT < e → WIDEST_EXPONENT ≡ exponent_for base top

found : (base top e : ℕ) → ((k : ℕ) → k < e → MOST_UNITS < units base top k) → units base top e ≤ MOST_UNITS → Found base top e
found base top e fails serves = record {
  small = λ small. unique base top e (exponent_for base top) (record { serves = inl (small, serves); least = λ k less _. fails k less }) (exponent_is base top);
  large = λ large. unique base top WIDEST_EXPONENT (exponent_for base top) (record { serves = inr refl; least = λ k less small. fails k (omega (arith, large, small)) }) (exponent_is base top);
}

pub found_first : (base top e : ℕ) → base ≤ top → IsFirst base top e → units base top e ≤ MOST_UNITS → Found base top e
found_first base top e order h serves = found base top e (λ k less. fails_below base top e k order h less) serves

pub found_next : (base top e : ℕ) → base ≤ top → IsFirst base top e → MOST_UNITS < units base top e → Found base top (e + 1)
found_next base top e order h fails = found base top (e + 1)
    (λ k less. elim (le_tells e k) [
      | inl t ↦ (let same : k ≡ e = omega (arith, t.1, less) in rw same fails)
      | inr t ↦ fails_below base top e k order h t.1
    ])
    (next_serves base top e order h)

-- ---- from leading leading

pub record Bits (length leading : ℕ) : Type 0 where
  pub bits : ℕ
  pub whole : leading + bits ≡ 64
  pub above : length < 2 ^ bits
  pub below : 2 ^ bits ≤ 2 * length + 1

pub first_above : (length leading e : ℕ) → Bits length leading → e ≡ 64 - leading - 9 → length < 2 ^ (e + 9)
first_above length leading e b is =
    let grows : 2 ^ b.bits ≤ 2 ^ (e + 9) = (let far : b.bits ≤ e + 9 = omega (arith, b.whole, is) in pow-le-pow_right (lit< tt) far) in
    omega (arith, b.above, grows)

pub first_below : (length leading e : ℕ) → Bits length leading → e ≡ 64 - leading - 9 → 1 ≤ e → 2 ^ (e + 9) ≤ 2 * length + 1
first_below length leading e b is some =
    let same : e + 9 ≡ b.bits = omega (arith, b.whole, is, some) in
    rw same b.below

pub first_small : (length leading e : ℕ) → Bits length leading → e ≡ 64 - leading - 9 → length ≤ 2 ^ 32 → e ≤ WIDEST_EXPONENT
first_small length leading e b is fits = elim (le_tells b.bits 33) [
  | inl t ↦ omega (arith, b.whole, is, t.1)
  | inr t ↦ absurd (let grows : 2 ^ 34 ≤ 2 ^ b.bits = pow-le-pow_right (lit< tt) t.1 in omega (arith, grows, b.below, fits))
]

pub bits_of : (length : ℕ) → length < 2 ^ 64 → Bits length (count_leading_zeros 64 length)
bits_of length small = let h = leading_length 64 length small in record { bits = h.0; whole = h.1; above = h.2; below = h.3 }
