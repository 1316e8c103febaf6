-- Lengths of objects are whole granules, and their addresses multiples of one unit.
use Rattle.std.proofs.Common.{ℕ, zero, suc, ◌≡◌, ◌+◌, ◌-◌, ◌*◌, ◌/◌, ◌%◌, ◌^◌, ◌<◌, ◌≤◌, lit<, ap, ◌∙◌, arith}
use Rattle.std.proofs.Math.Nat.{pow-le-pow_right}
use Rattle.std.proofs.lemmas.Nat.{pow-add, mul-mod_second, div-add-mod'}
use Rattle.def_words.specs.LeastBounds.{alignment_of, exponent_for, round_length_of}
use Rattle.def_chunks.specs.Heaps.{IsUnit}
use Rattle.law_words.proofs.Leasts.{rounded_eights}

-- the greater powers of two are whole granules
pub power_whole : (k : ℕ) → 2 ^ (k + 3) % 8 ≡ 0
power_whole k =
    let parts : 2 ^ (k + 3) ≡ 2 ^ k * 2 ^ 3 = pow-add 2 k 3 in
    let rest : (2 ^ k * (8 % 8)) % 8 ≡ (2 ^ k * 8) % 8 = mul-mod_second (2 ^ k) 8 8 in
    omega (arith, parts, rest)

pub length_whole : (n : ℕ) → n % 8 ≡ 0 → round_length_of n % 8 ≡ 0
length_whole n even = rounded_eights n (exponent_for 0 n) even

-- ---- units

low_powers : (e b : ℕ) → 2 ^ e < 8 → b % 8 ≡ 0 → b % 2 ^ e ≡ 0
low_powers zero b lt even = omega (arith, even)
low_powers (suc zero) b lt even = omega (arith, even)
low_powers (suc (suc zero)) b lt even = omega (arith, even)
low_powers (suc (suc (suc k))) b lt even =
    let later : 3 ≤ suc (suc (suc k)) = omega arith in
    let most : 2 ^ 3 ≤ 2 ^ suc (suc (suc k)) = pow-le-pow_right (lit< tt) later in
    absurd (omega (arith, most, lt))

high_powers : (e : ℕ) → 8 ≤ 2 ^ e → 2 ^ e % 8 ≡ 0
high_powers zero le = absurd (omega (arith, le))
high_powers (suc zero) le = absurd (omega (arith, le))
high_powers (suc (suc zero)) le = absurd (omega (arith, le))
high_powers (suc (suc (suc k))) le = (let more : suc (suc (suc k)) ≡ k + 3 = omega arith in ap (λ e. 2 ^ e % 8) more ∙ power_whole k)

pub unit_granule : (n : ℕ) → alignment_of n < 8 → IsUnit 8 (alignment_of n)
unit_granule n lt = record { some = lit< tt; both = λ b even aligned. even; each = λ b even. (even, low_powers (exponent_for 0 n) b lt even) }

pub unit_alignment : (n : ℕ) → 8 ≤ alignment_of n → IsUnit (alignment_of n) (alignment_of n)
unit_alignment n le = record {
  some = omega (arith, le);
  both = λ b even aligned. aligned;
  each = λ b aligned. (
      let power = high_powers (exponent_for 0 n) le in
      let whole : b / alignment_of n * alignment_of n + b % alignment_of n ≡ b = div-add-mod' b (alignment_of n) in
      let product : (b / alignment_of n * (alignment_of n % 8)) % 8 ≡ (b / alignment_of n * alignment_of n) % 8 = mul-mod_second (b / alignment_of n) (alignment_of n) 8 in
      let none : (b / alignment_of n * 0) % 8 ≡ (b / alignment_of n * alignment_of n) % 8 = rw power at product in
      (omega (arith, whole, aligned, none), aligned)
      );
}
