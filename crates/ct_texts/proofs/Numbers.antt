-- Numbers within a limit, and their decimal digits.
use Rattle.std.proofs.Common.{◌≡◌, ℕ, ◌^◌, ◌<◌, ◌≤◌, ◌&&◌, List, Bool, true, false, Some, None, inl, inr, refl, ap, sym, ◌∙◌, arith, decimal, nat_le}
use Rattle.std.specs.Str.{bytes_eq}
use Rattle.std.specs.Str.Parse.{digits_value}
use Rattle.std.proofs.lemmas.Slice.Eq.{bytes_eq-Decides}
use Rattle.std.proofs.lemmas.Fmt.{decimal_is_IsNumeral}
use Rattle.law_lists.proofs.Tests.{bool_tells, both_left, both_right, le_tells}
use Rattle.def_texts.specs.Digits.{number_within}

value_is : (n : ℕ) → n < 2 ^ 64 → digits_value 10 (decimal n) ≡ n
value_is n small = (decimal_is_IsNumeral n small).1

abbrev fits : ℕ → List ℕ → Bool
fits most text = nat_le (digits_value 10 text) most && bytes_eq (decimal (digits_value 10 text)) text

-- what a number within the limit is spelled as is read as it
pub number_back : (most n : ℕ) → n ≤ most → n < 2 ^ 64 → number_within most (decimal n) ≡ Some n
number_back most n low small =
    let value : digits_value 10 (decimal n) ≡ n = value_is n small in
    let whole : bytes_eq (decimal n) (decimal n) ≡ true = (bytes_eq-Decides (decimal n) (decimal n)).1 refl in
    let within : nat_le n most ≡ true = elim (le_tells n most) [ inl e ↦ e.0 | inr e ↦ absurd (omega (arith, low, e.1)) ] in
    rw (value, within, whole) refl

pub record IsTold (most : ℕ) (text : List ℕ) (n : ℕ) : Type 0 where
  pub small : n ≤ most
  pub is : decimal n ≡ text

within_most : (most : ℕ) (text : List ℕ) → fits most text ≡ true → digits_value 10 text ≤ most
within_most most text yes_here = elim (le_tells (digits_value 10 text) most) [
  | inl e ↦ e.1
  | inr e ↦ absurd (let bad : false ≡ true = sym e.0 ∙ both_left _ _ yes_here in cc)
]

pub number_told : (most : ℕ) (text : List ℕ) (n : ℕ) → number_within most text ≡ Some n → IsTold most text n
number_told most text n found =
    elim (bool_tells (fits most text)) [
      | inl yes_here ↦
          let same : digits_value 10 text ≡ n = (let e : Some (digits_value 10 text) ≡ Some n = rw yes_here at found in cc) in
          let low : digits_value 10 text ≤ most = within_most most text yes_here in
          record {
            small = omega (arith, same, low);
            is = ap (λ k. decimal k) (sym same) ∙ (bytes_eq-Decides (decimal (digits_value 10 text)) text).0 (both_right _ _ yes_here);
          }
      | inr no_here ↦ absurd (let e : None ≡ Some n = rw no_here at found in cc)
    ]

pub no_number : (most : ℕ) (text : List ℕ) → most < 2 ^ 64 → ((n : ℕ) → n < 2 ^ 64 → decimal n ≡ text → ⊥) → None ≡ number_within most text
no_number most text few none =
    elim (bool_tells (fits most text)) [
      | inl yes_here ↦
          let low : digits_value 10 text ≤ most = within_most most text yes_here in
          absurd (none (digits_value 10 text) (omega (arith, low, few)) ((bytes_eq-Decides (decimal (digits_value 10 text)) text).0 (both_right _ _ yes_here)))
      | inr no_here ↦ rw no_here refl
    ]

pub number_is : (most : ℕ) (text : List ℕ) (n : ℕ) → decimal n ≡ text → n ≤ most → n < 2 ^ 64 → Some n ≡ number_within most text
number_is most text n is low small = sym (number_back most n low small) ∙ ap (number_within most) is

pub too_many : (most : ℕ) (text : List ℕ) (n : ℕ) → decimal n ≡ text → n < 2 ^ 64 → most < n → None ≡ number_within most text
too_many most text n is small many =
    let value : digits_value 10 text ≡ n = ap (digits_value 10) (sym is) ∙ value_is n small in
    let above : nat_le n most ≡ false = elim (le_tells n most) [ inl e ↦ absurd (omega (arith, e.1, many)) | inr e ↦ e.0 ] in
    rw (value, above) refl
