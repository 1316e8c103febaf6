-- The exponent of a callee's stack, and its new top.
use Rattle.std.proofs.Common.{ℕ, ◌≡◌, ◌+◌, ◌-◌, ◌*◌, ◌/◌, ◌%◌, ◌^◌, ◌≤◌, ◌<◌, inl, inr, Bool, true, false, nat_le, length, sym, ap, ◌∙◌, arith}
use Rattle.std.proofs.Math.ListN.{get_or}
use Rattle.std.specs.List.{range_with_len}
use Rattle.std.specs.Option.{unwrap_or}
use Rattle.std.proofs.lemmas.List.FromFn.{get_or-range_with_len, length-range_with_len}
use Rattle.std.proofs.Math.Nat.{mul_assoc, mul-mod_left}
use Rattle.std.proofs.lemmas.Nat.{pow-add}
use Rattle.def_profile.specs.declared.bounds.TheConstants.{MOST_UNITS, LAST_EXPONENT}
use Rattle.law_lists.proofs.Finds.{find_is, find_none}
use Rattle.law_lists.proofs.Tests.{le_tells}
use Rattle.def_step.specs.Switch.{room_exponent}

abbrev pub fits : ℕ → ℕ → Bool
fits length e = nat_le (length / 2 ^ e) MOST_UNITS

pub fits_so : (length e : ℕ) → length / 2 ^ e ≤ MOST_UNITS → fits length e ≡ true
fits_so length e le = elim (le_tells (length / 2 ^ e) 511) [ inl t ↦ t.0 | inr f ↦ absurd (omega (arith, le, f.1)) ]

pub fits_not : (length e : ℕ) → MOST_UNITS < length / 2 ^ e → fits length e ≡ false
fits_not length e lt = elim (le_tells (length / 2 ^ e) 511) [ inl t ↦ absurd (omega (arith, lt, t.1)) | inr f ↦ f.0 ]

-- none below it fits
abbrev pub NoneBelow : ℕ → ℕ → Type 0
NoneBelow length e = (k : ℕ) → 4 ≤ k → k < e → fits length k ≡ false

place_before : (e k d : ℕ) → 4 ≤ e → e ≤ LAST_EXPONENT → k < e - 4 → get_or (range_with_len 4 11) k d ≡ 4 + k
place_before e k d low high lt = get_or-range_with_len 4 11 k d (omega (arith, low, high, lt))

pub found : (length e : ℕ) → 4 ≤ e → e ≤ LAST_EXPONENT → fits length e ≡ true → NoneBelow length e → e ≡ room_exponent length
found length e low high serves none =
    let whole : 4 + (e - 4) ≡ e = omega (arith, low) in
    let at : get_or (range_with_len 4 11) (e - 4) e ≡ e = get_or-range_with_len 4 11 (e - 4) e (omega (arith, low, high)) ∙ whole in
    let first = find_is (λ k. fits length k) (range_with_len 4 11) e (record {
      place = e - 4;
      inside = omega (arith, low, high, length-range_with_len 4 11);
      is = at;
      passes = serves;
      before = λ k lt. ap (λ x. fits length x) (place_before e k e low high lt) ∙ none (4 + k) (omega arith) (omega (arith, low, lt));
    }) in
    sym (ap (λ o. unwrap_or o LAST_EXPONENT) first)

pub missing : (length : ℕ) → NoneBelow length (LAST_EXPONENT + 1) → LAST_EXPONENT ≡ room_exponent length
missing length none =
    let absent = find_none (λ k. fits length k) (range_with_len 4 11) 0 (λ k lt.
    ap (λ x. fits length x) (get_or-range_with_len 4 11 k 0 (omega (arith, lt, length-range_with_len 4 11)))
    ∙ none (4 + k) (omega arith) (omega (arith, lt, length-range_with_len 4 11))) in
    sym (ap (λ o. unwrap_or o LAST_EXPONENT) absent)

-- units of an exponent of at least 4 are multiples of 16
pub whole_units : (n e : ℕ) → 4 ≤ e → n * 2 ^ e % 16 ≡ 0
whole_units n e low =
    let split : e ≡ e - 4 + 4 = omega (arith, low) in
    let power : 2 ^ e ≡ 2 ^ (e - 4) * 16 = ap (λ k. 2 ^ k) split ∙ pow-add 2 (e - 4) 4 in
    let whole : n * 2 ^ e ≡ n * 2 ^ (e - 4) * 16 = ap (λ p. n * p) power ∙ sym (mul_assoc n (2 ^ (e - 4)) 16) in
    ap (λ x. x % 16) whole ∙ mul-mod_left (n * 2 ^ (e - 4)) 16

-- also cut to 32 bits
pub cut_units : (x : ℕ) → x % 16 ≡ 0 → x % 4294967296 % 16 ≡ 0
cut_units x even = omega (arith, even)
