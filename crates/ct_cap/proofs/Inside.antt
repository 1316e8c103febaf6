-- Bounds at the addresses inside them.
use Rattle.std.proofs.Common.{ℕ, ◌+◌, ◌-◌, ◌*◌, ◌/◌, ◌%◌, ◌^◌, ◌<◌, ◌≤◌, ◌≡◌, ◌⊎◌, refl, sym, ◌∙◌, inl, inr, arith, subst}
use Rattle.std.proofs.Common.{lit<}
use Rattle.std.proofs.lemmas.Nat.{pow_pos, mul-le, mod-mul-add}
use Rattle.def_profile.specs.declared.bounds.TheConstants.{LAST_EXPONENT, WIDEST_EXPONENT, MOST_UNITS}
use Rattle.std.proofs.Math.Nat.{pow-le-pow_right}
use Rattle.law_lists.proofs.Tests.{lt_tells}
use Rattle.def_words.specs.Authority.{one_if_less, corner_of, middle, base_of, top_of, exponent_of, base_field, top_field}
use Rattle.law_words.proofs.Back.{Units, apart, block_units, exponent_kinds}
use Rattle.law_words.proofs.Fields.{corner_sum, unit_low, unit_high, wrap_33, base_back, top_back}
use Rattle.law_words.proofs.Lowered.{base_at, top_at, Same, widest}

from_units : (e B T a x : ℕ) → Units e B T (base_at e B a) (top_at e B T a) → base_at e B a ≤ x → x ≤ top_at e B T a → top_at e B T a ≤ 2 ^ 32 → Same e B T a x
from_units e B T a x u low high fits =
    let from : u.low * 2 ^ e ≤ x = rw (← u.base_is) low in
    let to : x ≤ u.high * 2 ^ e = rw (← u.top_is) high in
    let ends : u.high * 2 ^ e ≤ 2 ^ 32 = rw (← u.top_is) fits in
    let above : u.low ≤ x / 2 ^ e = unit_low x e u.low from in
    let below : x / 2 ^ e ≤ u.high = unit_high x e u.high to in
    let order : u.low ≤ u.high = omega (arith, above, below) in
    let base : base_at e (u.low % 512) x ≡ u.low * 2 ^ e = base_back x e u.low u.high from to u.near u.fits in
    let top : top_at e (u.low % 512) (u.high % 512) x ≡ u.high * 2 ^ e = top_back x e u.low u.high from to order u.near ends in (
      subst (λ b. base_at e b x ≡ u.low * 2 ^ e) u.base_field_is base ∙ sym u.base_is,
      subst (λ t. top_at e B t x ≡ u.high * 2 ^ e) u.top_field_is (subst (λ b. top_at e b (u.high % 512) x ≡ u.high * 2 ^ e) u.base_field_is top) ∙ sym u.top_is,
    )

-- the address's block, or the one below it
its_block : (e B T a up down : ℕ) → e ≤ LAST_EXPONENT → a < 2 ^ 32 → B < 512 → T < 512
    → one_if_less T B ≡ up → one_if_less (middle a e) B ≡ down
    → down ≤ a / 2 ^ e / 512 → (a / 2 ^ e / 512 - down) * 512 + B ≤ a / 2 ^ e → T + up * 512 ≤ B + MOST_UNITS
    → Units e B T (base_at e B a) (top_at e B T a)
its_block e B T a up down small a_small hb ht is_up is_down has under apart =
    rw (is_up, is_down) (block_units a e B T up down small a_small hb ht has under apart)

-- the lowest block, and an address below the unit of B: the base is at the end of the space, and the top past it or far
-- below
ends_apart : (e B T a x : ℕ) → e ≤ LAST_EXPONENT → B < 512 → T < 512 → one_if_less (middle a e) B ≡ 1 → a / 2 ^ e / 512 ≡ 0
    → base_at e B a ≤ x → x ≤ top_at e B T a → top_at e B T a ≤ 2 ^ 32 → ⊥
ends_apart e B T a x small hb ht is_down lowest low high fits =
    let p_small : 2 ^ e ≤ 2 ^ 14 = pow-le-pow_right (lit< tt) small in
    let positive : 0 < 2 ^ e = pow_pos e in
    let under_b : B * 2 ^ e ≤ 511 * 2 ^ e = mul-le B (2 ^ e) 511 (2 ^ e) (omega (arith, hb)) (omega arith) in
    let under_t : T * 2 ^ e ≤ 511 * 2 ^ e = mul-le T (2 ^ e) 511 (2 ^ e) (omega (arith, ht)) (omega arith) in
    let sum_low : a / 2 ^ e / 512 + 2 ^ 24 + 0 - 1 ≡ 2 ^ 24 - 1 = rw lowest refl in
    let corner_low : corner_of a e B 0 1 ≡ ((2 ^ 24 - 1) * 512 + B) * 2 ^ e = corner_sum a e B 0 1 (2 ^ 24 - 1) sum_low in
    let moved_low : ((2 ^ 24 - 1) * 512 + B) * 2 ^ e ≡ (2 * 2 ^ e - 1) * 2 ^ 32 + (2 ^ 32 - (512 * 2 ^ e - B * 2 ^ e)) = omega (arith, under_b, p_small, positive) in
    let base_small : 2 ^ 32 - (512 * 2 ^ e - B * 2 ^ e) < 2 ^ 32 = omega (arith, under_b, p_small, positive) in
    let base_is : base_at e B a ≡ 2 ^ 32 - (512 * 2 ^ e - B * 2 ^ e) = rw (is_down, corner_low, moved_low) (mod-mul-add (2 * 2 ^ e - 1) (2 ^ 32) (2 ^ 32 - (512 * 2 ^ e - B * 2 ^ e)) base_small) in
    elim (lt_tells T B) [
      | inl t ↦ (
          let sum : a / 2 ^ e / 512 + 2 ^ 24 + 1 - 1 ≡ 2 ^ 24 = rw lowest refl in
          let corner : corner_of a e T 1 1 ≡ (2 ^ 24 * 512 + T) * 2 ^ e = corner_sum a e T 1 1 (2 ^ 24) sum in
          let moved : 2 ^ 24 * 512 + T ≡ T + 2 ^ 33 = omega arith in
          let is_up : one_if_less T B ≡ 1 = rw t.0 refl in
          let top_is : top_at e B T a ≡ T * 2 ^ e = rw (is_up, is_down, corner, moved) (wrap_33 T (2 ^ e) (omega (arith, under_t, p_small))) in
          omega (arith, base_is, top_is, low, high, under_b, under_t, p_small, positive))
      | inr t ↦ (
          let sum : a / 2 ^ e / 512 + 2 ^ 24 + 0 - 1 ≡ 2 ^ 24 - 1 = rw lowest refl in
          let corner : corner_of a e T 0 1 ≡ ((2 ^ 24 - 1) * 512 + T) * 2 ^ e = corner_sum a e T 0 1 (2 ^ 24 - 1) sum in
          let moved : ((2 ^ 24 - 1) * 512 + T) * 2 ^ e ≡ (2 ^ e - 1) * 2 ^ 33 + (2 ^ 33 - (512 * 2 ^ e - T * 2 ^ e)) = omega (arith, under_t, p_small, positive) in
          let is_up : one_if_less T B ≡ 0 = rw t.0 refl in
          let top_small : 2 ^ 33 - (512 * 2 ^ e - T * 2 ^ e) < 2 ^ 33 = omega (arith, under_t, p_small, positive) in
          let top_is : top_at e B T a ≡ 2 ^ 33 - (512 * 2 ^ e - T * 2 ^ e) = rw (is_up, is_down, corner, moved) (mod-mul-add (2 ^ e - 1) (2 ^ 33) (2 ^ 33 - (512 * 2 ^ e - T * 2 ^ e)) top_small) in
          omega (arith, top_is, fits, under_t, p_small, positive))
    ]

usual : (e B T a x : ℕ) → e ≤ LAST_EXPONENT → a < 2 ^ 32 → B < 512 → T < 512
    → base_at e B a ≤ x → x ≤ top_at e B T a → top_at e B T a ≤ 2 ^ 32 → Same e B T a x
usual e B T a x small a_small hb ht low high fits =
    let close : T + one_if_less T B * 512 ≤ B + MOST_UNITS = apart T B hb ht in
    elim (lt_tells (middle a e) B) [
      | inl t ↦ (
          let down : one_if_less (middle a e) B ≡ 1 = rw t.0 refl in
          elim (lt_tells 0 (a / 2 ^ e / 512)) [
            | inl some ↦ from_units e B T a x
                (its_block e B T a (one_if_less T B) 1 small a_small hb ht refl down (omega (arith, some.1)) (omega (arith, some.1, hb)) close) low high fits
            | inr none ↦ absurd (ends_apart e B T a x small hb ht down (omega (arith, none.1)) low high fits)
          ])
      | inr t ↦ (
          let down : one_if_less (middle a e) B ≡ 0 = rw t.0 refl in
          from_units e B T a x (its_block e B T a (one_if_less T B) 0 small a_small hb ht refl down (omega arith) (omega (arith, t.1)) close) low high fits)
    ]

by_fields : (e B T a x : ℕ) → (e ≤ LAST_EXPONENT) ⊎ (e ≡ WIDEST_EXPONENT) → a < 2 ^ 32 → B < 512 → T < 512
    → base_at e B a ≤ x → x ≤ top_at e B T a → top_at e B T a ≤ 2 ^ 32 → Same e B T a x
by_fields e B T a x which a_small hb ht low high fits = elim which [
  | inl small ↦ usual e B T a x small a_small hb ht low high fits
  | inr wide ↦ subst (λ n. Same n B T a x) (sym wide) (widest B T a x hb ht)
]

pub inside : (high a x : ℕ) → a < 2 ^ 32 → base_of high a ≤ x → x ≤ top_of high a → top_of high a ≤ 2 ^ 32
    → (base_of high x ≡ base_of high a) × (top_of high x ≡ top_of high a)
inside high a x a_small low up fits =
    by_fields (exponent_of high) (base_field high) (top_field high) a x (exponent_kinds high) a_small (omega arith) (omega arith) low up fits
