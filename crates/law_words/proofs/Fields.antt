-- Decoding in units: an address within 511 units of a low unit gives that unit back, and the fields of
-- least bounds give their parts back.
use Rattle.std.proofs.Common.{ℕ, ◌+◌, ◌-◌, ◌*◌, ◌/◌, ◌%◌, ◌^◌, ◌<◌, ◌≤◌, ◌≡◌, ◌⊎◌, ◌==◌, if◌then◌else◌, refl, sym, inl, inr, arith}
use Rattle.std.proofs.lemmas.Nat.{pow_pos, pow-add, shr-shr, mod-mul-add, le-div, div_below}
use Rattle.def_profile.specs.declared.bounds.TheConstants.{LAST_EXPONENT, WIDEST_EXPONENT, WIDEST_FIELD, MOST_UNITS}
use Rattle.law_lists.proofs.Tests.{lt_tells, eq_tells}
use Rattle.def_words.specs.Authority.{one_if_less, corner_of, middle, base_of, top_of, exponent_of, exponent_field, base_field, top_field}
use Rattle.def_words.specs.LeastBounds.{coded}

-- the whole of decoding: how many blocks lie between two units that are at most 511 apart
pub block : (lo x : ℕ) → lo ≤ x → x ≤ lo + MOST_UNITS → x / 512 ≡ lo / 512 + one_if_less (x % 512) (lo % 512)
block lo x low high = elim (lt_tells (x % 512) (lo % 512)) [ inl t ↦ rw t.0 (omega (arith, t.1)) | inr t ↦ rw t.0 (omega (arith, t.1)) ]

pub corner_sum : (a e field up down s : ℕ) → a / 2 ^ e / 512 + 2 ^ 24 + up - down ≡ s → corner_of a e field up down ≡ (s * 512 + field) * 2 ^ e
corner_sum a e field up down s sum =
    let split : 2 ^ (e + 9) ≡ 2 ^ e * 512 = pow-add 2 e 9 in
    let blocks : a / 2 ^ e / 512 ≡ a / 2 ^ (e + 9) = shr-shr a e 9 in
    let there : a / 2 ^ (e + 9) + 2 ^ 24 + up - down ≡ s = rw (← blocks) sum in
    rw (there, split) (omega arith)

-- the unit of an address between two multiples of a unit
pub unit_low : (a e lo : ℕ) → lo * 2 ^ e ≤ a → lo ≤ a / 2 ^ e
unit_low a e lo low = le-div lo a (2 ^ e) (pow_pos e) low

pub unit_high : (a e hi : ℕ) → a ≤ hi * 2 ^ e → a / 2 ^ e ≤ hi
unit_high a e hi high =
    let positive : 0 < 2 ^ e = pow_pos e in
    let under : a < (hi + 1) * 2 ^ e = omega (arith, high, positive) in
    let below : a / 2 ^ e < hi + 1 = div_below a (2 ^ e) (hi + 1) positive under in
    omega (arith, below)

-- a multiple of 2^32 of units more makes no difference
pub wrap_32 : (x p : ℕ) → x * p < 2 ^ 32 → (x + 2 ^ 33) * p % 2 ^ 32 ≡ x * p
wrap_32 x p small =
    let split : (x + 2 ^ 33) * p ≡ (2 * p) * 2 ^ 32 + x * p = omega arith in
    rw split (mod-mul-add (2 * p) (2 ^ 32) (x * p) small)

pub wrap_33 : (x p : ℕ) → x * p < 2 ^ 33 → (x + 2 ^ 33) * p % 2 ^ 33 ≡ x * p
wrap_33 x p small =
    let split : (x + 2 ^ 33) * p ≡ p * 2 ^ 33 + x * p = omega arith in
    rw split (mod-mul-add p (2 ^ 33) (x * p) small)

pub base_back : (a e lo hi : ℕ) → lo * 2 ^ e ≤ a → a ≤ hi * 2 ^ e → hi ≤ lo + MOST_UNITS → lo * 2 ^ e < 2 ^ 32
    → corner_of a e (lo % 512) 0 (one_if_less (middle a e) (lo % 512)) % 2 ^ 32 ≡ lo * 2 ^ e
base_back a e lo hi low high near small =
    let from : lo ≤ a / 2 ^ e = unit_low a e lo low in
    let to : a / 2 ^ e ≤ hi = unit_high a e hi high in
    let blocks : a / 2 ^ e / 512 ≡ lo / 512 + one_if_less (a / 2 ^ e % 512) (lo % 512) = block lo (a / 2 ^ e) from (omega (arith, to, near)) in
    let sum : a / 2 ^ e / 512 + 2 ^ 24 + 0 - one_if_less (a / 2 ^ e % 512) (lo % 512) ≡ lo / 512 + 2 ^ 24 = rw blocks (omega arith) in
    let corner : corner_of a e (lo % 512) 0 (one_if_less (a / 2 ^ e % 512) (lo % 512)) ≡ ((lo / 512 + 2 ^ 24) * 512 + lo % 512) * 2 ^ e = corner_sum a e (lo % 512) 0 (one_if_less (a / 2 ^ e % 512) (lo % 512)) (lo / 512 + 2 ^ 24) sum in
    let whole : (lo / 512 + 2 ^ 24) * 512 + lo % 512 ≡ lo + 2 ^ 33 = omega arith in
    rw (corner, whole) (wrap_32 lo (2 ^ e) small)

pub top_back : (a e lo hi : ℕ) → lo * 2 ^ e ≤ a → a ≤ hi * 2 ^ e → lo ≤ hi → hi ≤ lo + MOST_UNITS → hi * 2 ^ e ≤ 2 ^ 32
    → corner_of a e (hi % 512) (one_if_less (hi % 512) (lo % 512)) (one_if_less (middle a e) (lo % 512)) % 2 ^ 33 ≡ hi * 2 ^ e
top_back a e lo hi low high order near small =
    let from : lo ≤ a / 2 ^ e = unit_low a e lo low in
    let to : a / 2 ^ e ≤ hi = unit_high a e hi high in
    let blocks : a / 2 ^ e / 512 ≡ lo / 512 + one_if_less (a / 2 ^ e % 512) (lo % 512) = block lo (a / 2 ^ e) from (omega (arith, to, near)) in
    let ends : hi / 512 ≡ lo / 512 + one_if_less (hi % 512) (lo % 512) = block lo hi order near in
    let sum : a / 2 ^ e / 512 + 2 ^ 24 + one_if_less (hi % 512) (lo % 512) - one_if_less (a / 2 ^ e % 512) (lo % 512) ≡ hi / 512 + 2 ^ 24 = rw (blocks, ends) (omega arith) in
    let corner : corner_of a e (hi % 512) (one_if_less (hi % 512) (lo % 512)) (one_if_less (a / 2 ^ e % 512) (lo % 512)) ≡ ((hi / 512 + 2 ^ 24) * 512 + hi % 512) * 2 ^ e = corner_sum a e (hi % 512) (one_if_less (hi % 512) (lo % 512)) (one_if_less (a / 2 ^ e % 512) (lo % 512)) (hi / 512 + 2 ^ 24) sum in
    let whole : (hi / 512 + 2 ^ 24) * 512 + hi % 512 ≡ hi + 2 ^ 33 = omega arith in
    rw (corner, whole) (wrap_33 hi (2 ^ e) (omega (arith, small)))

-- ---- the fields of a word

pub coded_small : (e : ℕ) → (e ≤ LAST_EXPONENT) ⊎ (e ≡ WIDEST_EXPONENT) → coded e < 16
coded_small e which = elim (eq_tells e 24) [ inl t ↦ rw t.0 (omega arith) | inr t ↦ rw t.0 (elim which [ inl low ↦ omega (arith, low) | inr is ↦ absurd (t.1 is) ]) ]

pub code_back : (e : ℕ) → (e ≤ LAST_EXPONENT) ⊎ (e ≡ WIDEST_EXPONENT) → (if coded e == WIDEST_FIELD then WIDEST_EXPONENT else coded e) ≡ e
code_back e which =
    elim (eq_tells e 24) [
      | inl t ↦ rw t.0 (sym t.1)
      | inr t ↦ rw t.0 (elim (eq_tells e 15) [ inl s ↦ absurd (elim which [ inl low ↦ omega (arith, low, s.1) | inr is ↦ t.1 is ]) | inr s ↦ rw s.0 refl ])
    ]

pub exponent_back : (rest c b t : ℕ) → c < 16 → b < 512 → t < 512 → exponent_field (rest * 2 ^ 22 + (c * 2 ^ 18 + b * 2 ^ 9 + t)) ≡ c
exponent_back rest c b t hc hb ht = omega (arith, hc, hb, ht)

pub base_field_back : (rest c b t : ℕ) → c < 16 → b < 512 → t < 512 → base_field (rest * 2 ^ 22 + (c * 2 ^ 18 + b * 2 ^ 9 + t)) ≡ b
base_field_back rest c b t hc hb ht = omega (arith, hc, hb, ht)

pub top_field_back : (rest c b t : ℕ) → c < 16 → b < 512 → t < 512 → top_field (rest * 2 ^ 22 + (c * 2 ^ 18 + b * 2 ^ 9 + t)) ≡ t
top_field_back rest c b t hc hb ht = omega (arith, hc, hb, ht)

-- what a word decodes to, by its fields
pub base_by : (high a e b : ℕ) → exponent_of high ≡ e → base_field high ≡ b → base_of high a ≡ corner_of a e b 0 (one_if_less (middle a e) b) % 2 ^ 32
base_by high a e b is_e is_b = rw (← is_e, ← is_b) refl

pub top_by : (high a e b t : ℕ) → exponent_of high ≡ e → base_field high ≡ b → top_field high ≡ t → top_of high a ≡ corner_of a e t (one_if_less t b) (one_if_less (middle a e) b) % 2 ^ 33
top_by high a e b t is_e is_b is_t = rw (← is_e, ← is_b, ← is_t) refl
