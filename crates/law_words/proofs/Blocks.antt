-- The decoded bounds as the formula says them: the address's block, moved by whole blocks, and the unit that the
-- field names, modulo 2^32 and 2^33.
use Rattle.std.proofs.Common.{ℕ, ◌≡◌, ◌+◌, ◌-◌, ◌*◌, ◌/◌, ◌%◌, ◌^◌, ◌≤◌, inl, inr, refl, ap, ◌∙◌, arith}
use Rattle.std.proofs.Math.Nat.{add-mul-mod_self_right, mod-add-mod}
use Rattle.std.proofs.lemmas.Nat.{pow-add}
use Rattle.law_lists.proofs.Tests.{lt_tells}
use Rattle.law_words.proofs.Back.{at_most_one}
use Rattle.def_words.specs.Authority.{base_field, base_of, corner_of, exponent_of, middle, one_if_less, top_field, top_of}

-- a block less and a block more, over plain numbers
moved : (b p up down : ℕ) → down ≤ 1 → (b + 16777216 + up - down) * p + down * p ≡ (b + up) * p + 16777216 * p
moved b p up down few = elim (lt_tells down 1) [
  | inl e ↦
      let none : down ≡ 0 = omega (arith, e.1) in
      let same : b + 16777216 + up - 0 ≡ b + 16777216 + up = omega arith in
      rw (none, same) (omega arith)
  | inr e ↦
      let one : down ≡ 1 = omega (arith, e.1, few) in
      let less : b + 16777216 + up - 1 ≡ b + 16777215 + up = omega arith in
      rw (one, less) (omega arith)
]

corner_moved : (a e field up down : ℕ) → down ≤ 1
    → corner_of a e field up down + down * 2 ^ (e + 9) ≡ (a / 2 ^ (e + 9) + up) * 2 ^ (e + 9) + field * 2 ^ e + 2 ^ e * 2 * 2 ^ 32
corner_moved a e field up down few =
    let shift = moved (a / 2 ^ (e + 9)) (2 ^ (e + 9)) up down few in
    let parts : 2 ^ (e + 9) ≡ 2 ^ e * 2 ^ 9 = pow-add 2 e 9 in
    omega (arith, shift, parts)

-- modulo any divisor of 2^33
corner_modulo : (a e field up down m k : ℕ) → down ≤ 1 → k * m ≡ 2 * 2 ^ 32
    → (corner_of a e field up down + down * 2 ^ (e + 9)) % m ≡ ((a / 2 ^ (e + 9) + up) * 2 ^ (e + 9) + field * 2 ^ e) % m
corner_modulo a e field up down m k few whole =
    let is = corner_moved a e field up down few in
    let more : 2 ^ e * 2 * 2 ^ 32 ≡ 2 ^ e * k * m = omega (arith, ap (λ n. 2 ^ e * n) whole) in
    ap (λ n. n % m) (is ∙ ap (λ n. (a / 2 ^ (e + 9) + up) * 2 ^ (e + 9) + field * 2 ^ e + n) more)
    ∙ add-mul-mod_self_right ((a / 2 ^ (e + 9) + up) * 2 ^ (e + 9) + field * 2 ^ e) (2 ^ e * k) m

pub base_is_block : (high a : ℕ) → (base_of high a + one_if_less (middle a (exponent_of high)) (base_field high) * 2 ^ (exponent_of high + 9)) % 2 ^ 32
    ≡ (a / 2 ^ (exponent_of high + 9) * 2 ^ (exponent_of high + 9) + base_field high * 2 ^ exponent_of high) % 2 ^ 32
base_is_block high a =
    let e : ℕ = exponent_of high in
    let down : ℕ = one_if_less (middle a e) (base_field high) in
    let is = corner_modulo a e (base_field high) 0 down (2 ^ 32) 2 (at_most_one (middle a e) (base_field high)) refl in
    let none : a / 2 ^ (e + 9) + 0 ≡ a / 2 ^ (e + 9) = omega arith in
    mod-add-mod (corner_of a e (base_field high) 0 down) (2 ^ 32) (down * 2 ^ (e + 9)) ∙ is ∙ ap (λ n. (n * 2 ^ (e + 9) + base_field high * 2 ^ e) % 2 ^ 32) none

pub top_is_block : (high a : ℕ) → (top_of high a + one_if_less (middle a (exponent_of high)) (base_field high) * 2 ^ (exponent_of high + 9)) % 2 ^ 33
    ≡ ((a / 2 ^ (exponent_of high + 9) + one_if_less (top_field high) (base_field high)) * 2 ^ (exponent_of high + 9) + top_field high * 2 ^ exponent_of high) % 2 ^ 33
top_is_block high a =
    let e : ℕ = exponent_of high in
    let down : ℕ = one_if_less (middle a e) (base_field high) in
    let up : ℕ = one_if_less (top_field high) (base_field high) in
    mod-add-mod (corner_of a e (top_field high) up down) (2 ^ 33) (down * 2 ^ (e + 9)) ∙ corner_modulo a e (top_field high) up down (2 ^ 33) 1 (at_most_one (middle a e) (base_field high)) refl
