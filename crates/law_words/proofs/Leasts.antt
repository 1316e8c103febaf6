-- The least exponent: that the search finds it, that it is one, and what its rounding keeps.
use Rattle.std.proofs.Common.{ℕ, zero, suc, ◌+◌, ◌-◌, ◌*◌, ◌/◌, ◌%◌, ◌^◌, ◌<◌, ◌≤◌, ◌≡◌, ◌⊎◌, refl, ap, sym, ◌∙◌, inl, inr, lit<, subst, arith}
use Rattle.std.proofs.lemmas.Nat.{pow_pos, pow-add, le-div, div_below, mul-le, div-add-mod', mod_below}
use Rattle.std.proofs.Math.Nat.{div-mul-le_self, pow-le-pow_right, mul_assoc, mul-mod_left}
use Rattle.def_profile.specs.declared.bounds.TheConstants.{LAST_EXPONENT, WIDEST_EXPONENT, MOST_UNITS}
use Rattle.law_lists.proofs.Tests.{le_tells}
use Rattle.def_words.specs.LeastBounds.{floor_units, ceil_units, units, first_from, exponent_for, IsLeastExponent, alignment_of, align_mask_of}

pub record FirstFrom (base top e n r : ℕ) : Type 0 where
  pub serves : ((e ≤ r) × (r < e + n) × (units base top r ≤ MOST_UNITS)) ⊎ (r ≡ WIDEST_EXPONENT)
  pub least : (k : ℕ) → e ≤ k → k < e + n → k < r → MOST_UNITS < units base top k

later : (base top e n r : ℕ) → MOST_UNITS < units base top e → FirstFrom base top (e + 1) n r → FirstFrom base top e (suc n) r
later base top e n r fails h = record {
  serves = elim h.serves [ inl s ↦ inl (omega (arith, s.0), omega (arith, s.1), s.2) | inr is ↦ inr is ];
  least = λ k low high below. elim (le_tells k e) [
    | inl t ↦ (let same : k ≡ e = omega (arith, t.1, low) in rw same fails)
    | inr t ↦ h.least k (omega (arith, t.1)) (omega (arith, high)) below
  ];
}

pub first_is : (base top e n : ℕ) → FirstFrom base top e n (first_from base top e n)
first_is base top e zero = record { serves = inr refl; least = λ k low high below. absurd (omega (arith, low, high)) }
first_is base top e (suc n) = elim (le_tells (units base top e) 511) [
  | inl t ↦ rw t.0 (record { serves = inl (omega arith, omega arith, t.1); least = λ k low high below. absurd (omega (arith, low, below)) })
  | inr t ↦ rw t.0 (later base top e n (first_from base top (e + 1) n) t.1 (first_is base top (e + 1) n))
]

pub exponent_is : (base top : ℕ) → IsLeastExponent base top (exponent_for base top)
unfolding exponent_for
exponent_is base top =
    let h : FirstFrom base top 0 15 (first_from base top 0 15) = first_is base top 0 15 in
    record {
      serves = elim h.serves [ inl s ↦ inl (omega (arith, s.1), s.2) | inr is ↦ inr is ];
      least = λ k below small. h.least k (omega arith) (omega (arith, small)) below;
    }

no_less : (base top e f : ℕ) → IsLeastExponent base top e → IsLeastExponent base top f → e < f → ⊥
no_less base top e f he hf less = elim he.serves [
  | inl s ↦ (let fails : 511 < units base top e = hf.least e less s.0 in omega (arith, fails, s.1))
  | inr is ↦ elim hf.serves [ inl s ↦ omega (arith, s.0, is, less) | inr same ↦ omega (arith, same, is, less) ]
]

pub unique : (base top e f : ℕ) → IsLeastExponent base top e → IsLeastExponent base top f → e ≡ f
unique base top e f he hf = elim (le_tells e f) [
  | inl t ↦ elim (le_tells f e) [ inl s ↦ omega (arith, t.1, s.1) | inr s ↦ absurd (no_less base top e f he hf s.1) ]
  | inr t ↦ absurd (no_less base top f e hf he t.1)
]

-- ---- rounding at any exponent

pub ceil_le : (t k e : ℕ) → t ≤ k * 2 ^ e → ceil_units t e ≤ k
ceil_le t k e le =
    let positive : 0 < 2 ^ e = pow_pos e in
    let under : t + 2 ^ e - 1 < (k + 1) * 2 ^ e = omega (arith, le, positive) in
    let below : ceil_units t e < k + 1 = div_below (t + 2 ^ e - 1) (2 ^ e) (k + 1) positive under in
    omega (arith, below)

pub ceil_above : (t e : ℕ) → t ≤ ceil_units t e * 2 ^ e
ceil_above t e =
    let positive : 0 < 2 ^ e = pow_pos e in
    let whole : (t + 2 ^ e - 1) / 2 ^ e * 2 ^ e + (t + 2 ^ e - 1) % 2 ^ e ≡ t + 2 ^ e - 1 = div-add-mod' (t + 2 ^ e - 1) (2 ^ e) in
    let rest : (t + 2 ^ e - 1) % 2 ^ e < 2 ^ e = mod_below (t + 2 ^ e - 1) (2 ^ e) positive in
    omega (arith, whole, rest, positive)

pub floor_under : (b e : ℕ) → floor_units b e * 2 ^ e ≤ b
floor_under b e = div-mul-le_self b (2 ^ e)

pub floor_ceil : (b t e : ℕ) → b ≤ t → floor_units b e ≤ ceil_units t e
floor_ceil b t e le =
    let positive : 0 < 2 ^ e = pow_pos e in
    let under : floor_units b e * 2 ^ e ≤ b = floor_under b e in
    le-div (floor_units b e) (t + 2 ^ e - 1) (2 ^ e) positive (omega (arith, under, le, positive))

pub whole : (e n : ℕ) → e ≤ n → 2 ^ (n - e) * 2 ^ e ≡ 2 ^ n
whole e n le = let same : n - e + e ≡ n = omega (arith, le) in sym (pow-add 2 (n - e) e) ∙ ap (λ k. 2 ^ k) same

pub finer : (e f k : ℕ) → e ≤ f → k * 2 ^ f ≡ (k * 2 ^ (f - e)) * 2 ^ e
finer e f k le = let split : 2 ^ (f - e) * 2 ^ e ≡ 2 ^ f = whole e f le in rw (← split) (omega arith)

-- rounding keeps multiples of eight
pub rounded_eights : (n e : ℕ) → n % 8 ≡ 0 → ceil_units n e * 2 ^ e % 8 ≡ 0
rounded_eights n zero even = omega (arith, even)
rounded_eights n (suc zero) even = omega (arith, even)
rounded_eights n (suc (suc zero)) even = omega (arith, even)
rounded_eights n (suc (suc (suc e))) even =
    let sum : suc (suc (suc e)) ≡ e + 3 = omega arith in
    let power : 2 ^ (suc (suc (suc e))) ≡ 2 ^ e * 8 = ap (λ k. 2 ^ k) sum ∙ pow-add 2 e 3 in
    let P : ℕ → Type 0 = λ k. ceil_units n (suc (suc (suc e))) * k % 8 ≡ 0 in
    subst P (sym power) (ap (λ k. k % 8) (sym (mul_assoc (ceil_units n (suc (suc (suc e)))) (2 ^ e) 8)) ∙ mul-mod_left (ceil_units n (suc (suc (suc e))) * 2 ^ e) 8)

-- what the least exponent of a range gives
pub record Good (base top e : ℕ) : Type 0 where
  pub exponent_small : (e ≤ LAST_EXPONENT) ⊎ (e ≡ WIDEST_EXPONENT)
  pub near : ceil_units top e ≤ floor_units base e + MOST_UNITS
  pub order : floor_units base e ≤ ceil_units top e
  pub low : floor_units base e * 2 ^ e ≤ base
  pub high : top ≤ ceil_units top e * 2 ^ e
  pub fits : ceil_units top e * 2 ^ e ≤ 2 ^ 32

fits_small : (top e : ℕ) → e ≤ LAST_EXPONENT → top ≤ 2 ^ 32 → ceil_units top e * 2 ^ e ≤ 2 ^ 32
fits_small top e small le =
    let all : 2 ^ (32 - e) * 2 ^ e ≡ 2 ^ 32 = whole e 32 (omega (arith, small)) in
    let under : ceil_units top e ≤ 2 ^ (32 - e) = ceil_le top (2 ^ (32 - e)) e (rw all le) in
    let scaled : ceil_units top e * 2 ^ e ≤ 2 ^ (32 - e) * 2 ^ e = mul-le (ceil_units top e) (2 ^ e) (2 ^ (32 - e)) (2 ^ e) under (omega arith) in
    omega (arith, scaled, all)

fits_widest : (top e : ℕ) → e ≡ WIDEST_EXPONENT → top ≤ 2 ^ 32 → (ceil_units top e ≤ 256) × (ceil_units top e * 2 ^ e ≤ 2 ^ 32)
fits_widest top e is le = rw is (omega (arith, le), omega (arith, le))

pub good_at : (base top e : ℕ) → IsLeastExponent base top e → base ≤ top → top ≤ 2 ^ 32 → Good base top e
good_at base top e h order le = elim h.serves [
  | inl s ↦ record {
    exponent_small = inl s.0;
    near = omega (arith, s.1);
    order = floor_ceil base top e order;
    low = floor_under base e;
    high = ceil_above top e;
    fits = fits_small top e s.0 le;
  }
  | inr is ↦ record {
    exponent_small = inr is;
    near = (let few : ceil_units top e ≤ 256 = (fits_widest top e is le).0 in omega (arith, few));
    order = floor_ceil base top e order;
    low = floor_under base e;
    high = ceil_above top e;
    fits = (fits_widest top e is le).1;
  }
]

pub good : (base top : ℕ) → base ≤ top → top ≤ 2 ^ 32 → Good base top (exponent_for base top)
good base top order le = good_at base top (exponent_for base top) (exponent_is base top) order le

-- ---- the alignment of a length, and its mask

pub alignment_small : (n : ℕ) → alignment_of n ≤ 2 ^ 24
alignment_small n = elim (exponent_is 0 n).serves [
  | inl s ↦ (let small : exponent_for 0 n ≤ 24 = (let le = s.0 in omega (arith, le)) in pow-le-pow_right (lit< tt) small)
  | inr is ↦ (let small : exponent_for 0 n ≤ 24 = omega (arith, is) in pow-le-pow_right (lit< tt) small)
]

pub mask_back : (n : ℕ) → 4294967296 - align_mask_of n ≡ alignment_of n
mask_back n = let small = alignment_small n in omega (arith, small)
