-- Multiples of powers of two, and the alignment of a region.
use Rattle.std.proofs.Common.{ℕ, ◌+◌, ◌-◌, ◌*◌, ◌/◌, ◌%◌, ◌^◌, ◌<◌, ◌≤◌, ◌≡◌, max, refl, ap, sym, subst, ◌∙◌, arith, lit<, inl, inr}
use Rattle.std.proofs.lemmas.Nat.{pow_pos, mul-le, div-add-mod', le-div}
use Rattle.std.proofs.Math.Nat.{pow-le-pow_right, mul-mod_left}
use Rattle.law_lists.proofs.Tests.{le_tells}
use Rattle.def_words.specs.LeastBounds.{ceil_units, exponent_for}
use Rattle.law_words.proofs.Leasts.{ceil_above, ceil_le, finer}
use Rattle.def_layout.specs.Placement.{whole_size, region_alignment, region_base, IsLeastBase}

-- ---- multiples

pub whole_of : (b e : ℕ) → b % 2 ^ e ≡ 0 → b / 2 ^ e * 2 ^ e ≡ b
whole_of b e is = let split : b / 2 ^ e * 2 ^ e + b % 2 ^ e ≡ b = div-add-mod' b (2 ^ e) in omega (arith, split, is)

pub coarser : (b e f : ℕ) → e ≤ f → b % 2 ^ f ≡ 0 → b % 2 ^ e ≡ 0
coarser b e f le is =
    let parts : b ≡ b / 2 ^ f * 2 ^ (f - e) * 2 ^ e = sym (whole_of b f is) ∙ finer e f (b / 2 ^ f) le in
    ap (λ n. n % 2 ^ e) parts ∙ mul-mod_left (b / 2 ^ f * 2 ^ (f - e)) (2 ^ e)

pub ceil_whole : (t e : ℕ) → t % 2 ^ e ≡ 0 → ceil_units t e ≡ t / 2 ^ e
ceil_whole t e is =
    let low : t / 2 ^ e ≤ ceil_units t e = le-div (t / 2 ^ e) (t + 2 ^ e - 1) (2 ^ e) (pow_pos e) (let same = whole_of t e is in let some : 0 < 2 ^ e = pow_pos e in omega (arith, same, some)) in
    let high : ceil_units t e ≤ t / 2 ^ e = ceil_le t (t / 2 ^ e) e (let same = whole_of t e is in omega (arith, same)) in
    omega (arith, low, high)

-- ---- the alignment

pub power_max : (e : ℕ) → max 16 (2 ^ e) ≡ 2 ^ max 4 e
power_max e = elim (le_tells e 4) [
  | inl t ↦ (let low = t.1 in let few : 2 ^ e ≤ 2 ^ 4 = pow-le-pow_right (lit< tt) low in let four : max 4 e ≡ 4 = omega (arith, low) in rw four (omega (arith, few)))
  | inr t ↦ (let high = t.1 in let many : 2 ^ 4 ≤ 2 ^ e = (let le : 4 ≤ e = omega (arith, high) in pow-le-pow_right (lit< tt) le) in let same : max 4 e ≡ e = omega (arith, high) in rw same (omega (arith, many)))
]

-- the exponent of a size's alignment
pub exponent_of : ℕ → ℕ
exponent_of size = max 4 (exponent_for 0 (whole_size size))

pub alignment_is : (size : ℕ) → region_alignment size ≡ 2 ^ exponent_of size
unfolding exponent_of
alignment_is size = power_max (exponent_for 0 (whole_size size))

pub base_is : (end size : ℕ) → region_base end size ≡ ceil_units end (exponent_of size) * 2 ^ exponent_of size
base_is end size = rw alignment_is refl

pub base_whole : (end size : ℕ) → region_base end size % 2 ^ exponent_of size ≡ 0
base_whole end size = rw base_is (mul-mod_left (ceil_units end (exponent_of size)) (2 ^ exponent_of size))

pub four_at_least : (size : ℕ) → 4 ≤ exponent_of size
unfolding exponent_of
four_at_least size = omega arith

pub own_at_least : (size : ℕ) → exponent_for 0 (whole_size size) ≤ exponent_of size
unfolding exponent_of
own_at_least size = omega arith

both_whole : (b e : ℕ) → b % 16 ≡ 0 → b % 2 ^ e ≡ 0 → b % 2 ^ max 4 e ≡ 0
both_whole b e four own = elim (le_tells e 4) [
  | inl t ↦ (let low = t.1 in let same : max 4 e ≡ 4 = omega (arith, low) in rw same four)
  | inr t ↦ (let high = t.1 in let same : max 4 e ≡ e = omega (arith, high) in rw same own)
]

pub after : (end size : ℕ) → end ≤ region_base end size
after end size = rw base_is (ceil_above end (exponent_of size))

pub base_least : (end size : ℕ) → IsLeastBase end size (region_base end size)
unfolding exponent_of
base_least end size = record {
  even = coarser (region_base end size) 4 (exponent_of size) (four_at_least size) (base_whole end size);
  aligned = coarser (region_base end size) (exponent_for 0 (whole_size size)) (exponent_of size) (own_at_least size) (base_whole end size);
  after = after end size;
  least = λ b le even aligned.
      let whole : b % 2 ^ exponent_of size ≡ 0 = both_whole b (exponent_for 0 (whole_size size)) even aligned in
      let same : b / 2 ^ exponent_of size * 2 ^ exponent_of size ≡ b = whole_of b (exponent_of size) whole in
      let few : ceil_units end (exponent_of size) ≤ b / 2 ^ exponent_of size = ceil_le end (b / 2 ^ exponent_of size) (exponent_of size) (omega (arith, same, le)) in
      rw base_is (subst (λ n. ceil_units end (exponent_of size) * 2 ^ exponent_of size ≤ n) same (scaled (ceil_units end (exponent_of size)) (b / 2 ^ exponent_of size) (2 ^ exponent_of size) few));
}
  where
    scaled : (a b n : ℕ) → a ≤ b → a * n ≤ b * n
    scaled a b n le = mul-le a n b n le (omega arith)
