-- Spelling and normal sets, by trying all six-bit spellings and all sets of the twelve.
use Rattle.std.proofs.Common.{ℕ, zero, suc, ◌+◌, ◌-◌, ◌*◌, ◌/◌, ◌%◌, ◌^◌, ◌<◌, ◌≤◌, ◌≡◌, ◌==◌, nat_lt, Bool, true, false, ◌&&◌, refl, sym, ◌∙◌, inl, inr, arith}
use Rattle.std.proofs.lemmas.Bool.{eqb-true, ltb-true, and_parts}
use Rattle.law_lists.proofs.Tests.{le_tells}
use Rattle.def_words.specs.Permissions.{bit, set_where, form_of, holds, normal_set, packed, unpacked, is_told, first_spelling, forms, IsLegal, Within}
use Rattle.law_words.proofs.Bits.{bit_where, bit_past, where_small}

abbrev pub all_below : (ℕ → Bool) → ℕ → Bool
all_below f zero = true
all_below f (suc n) = f n && all_below f n

pub below_holds : (f : ℕ → Bool) (n k : ℕ) → all_below f n ≡ true → k < n → f k ≡ true
below_holds f zero k h low = absurd (omega (arith, low))
below_holds f (suc n) k h low =
    let parts = and_parts (f n) (all_below f n) h in
    elim (le_tells n k) [
      | inl t ↦ (let same : k ≡ n = omega (arith, t.1, low) in rw same parts.0)
      | inr t ↦ below_holds f n k parts.1 t.1
    ]

-- ---- each spelling

spelling_test : ℕ → Bool
spelling_test b = (packed (unpacked b) == b) && (normal_set (unpacked b) == unpacked b)

spellings : all_below spelling_test 64 ≡ true
unfolding spelling_test packed unpacked set_where bit form_of normal_set
spellings = refl

pub spells_back : (b : ℕ) → b < 64 → packed (unpacked b) ≡ b
unfolding spelling_test
spells_back b low = eqb-true (packed (unpacked b)) b (and_parts (packed (unpacked b) == b) (normal_set (unpacked b) == unpacked b) (below_holds spelling_test 64 b spellings low)).0

pub told_legal : (b : ℕ) → b < 64 → IsLegal (unpacked b)
unfolding spelling_test
told_legal b low = eqb-true (normal_set (unpacked b)) (unpacked b) (and_parts (packed (unpacked b) == b) (normal_set (unpacked b) == unpacked b) (below_holds spelling_test 64 b spellings low)).1

-- ---- each set

set_test : ℕ → Bool
set_test s = (unpacked (packed s) == normal_set s) && nat_lt (packed s) 64

row_test : ℕ → Bool
row_test n = all_below (λ k. set_test (n * 64 + k)) 64

rows_a : all_below row_test 16 ≡ true
unfolding row_test set_test packed unpacked set_where bit form_of normal_set
rows_a = refl

rows_b : all_below (λ n. row_test (n + 16)) 16 ≡ true
unfolding row_test set_test packed unpacked set_where bit form_of normal_set
rows_b = refl

rows_c : all_below (λ n. row_test (n + 32)) 16 ≡ true
unfolding row_test set_test packed unpacked set_where bit form_of normal_set
rows_c = refl

rows_d : all_below (λ n. row_test (n + 48)) 16 ≡ true
unfolding row_test set_test packed unpacked set_where bit form_of normal_set
rows_d = refl

row : (n : ℕ) → n < 64 → row_test n ≡ true
row n low = elim (le_tells 48 n) [
  | inl t ↦ shifted 48 n rows_d t.1 (omega (arith, low))
  | inr t ↦ elim (le_tells 32 n) [
    | inl s ↦ shifted 32 n rows_c s.1 (omega (arith, t.1))
    | inr s ↦ elim (le_tells 16 n) [
      | inl u ↦ shifted 16 n rows_b u.1 (omega (arith, s.1))
      | inr u ↦ below_holds row_test 16 n rows_a u.1
    ]
  ]
]
  where
    shifted : (d n : ℕ) → all_below (λ k. row_test (k + d)) 16 ≡ true → d ≤ n → n - d < 16 → row_test n ≡ true
    shifted d n h le small =
        let there : row_test (n - d + d) ≡ true = below_holds (λ k. row_test (k + d)) 16 (n - d) h small in
        let same : n - d + d ≡ n = omega (arith, le) in
        rw (← same) there

each_set : (s : ℕ) → s < 2 ^ 12 → set_test s ≡ true
unfolding row_test
each_set s small =
    let there : set_test (s / 64 * 64 + s % 64) ≡ true = below_holds (λ k. set_test (s / 64 * 64 + k)) 64 (s % 64) (row (s / 64) (omega (arith, small))) (omega arith) in
    let same : s / 64 * 64 + s % 64 ≡ s = omega arith in
    rw (← same) there

pub packs_back : (s : ℕ) → s < 2 ^ 12 → unpacked (packed s) ≡ normal_set s
unfolding set_test
packs_back s small = eqb-true (unpacked (packed s)) (normal_set s) (and_parts (unpacked (packed s) == normal_set s) (nat_lt (packed s) 64) (each_set s small)).0

pub packed_small : (s : ℕ) → s < 2 ^ 12 → packed s < 64
unfolding set_test
packed_small s small = ltb-true (packed s) 64 (and_parts (unpacked (packed s) == normal_set s) (nat_lt (packed s) 64) (each_set s small)).1

-- ---- normal sets

pub normal_small : (s : ℕ) → normal_set s < 2 ^ 12
unfolding normal_set
normal_small s = where_small (λ p. bit s p && holds (form_of s) p)

pub unpacked_small : (b : ℕ) → unpacked b < 2 ^ 12
unfolding unpacked
unpacked_small b = where_small (is_told b (first_spelling b forms))

pub normal_legal : (s : ℕ) → s < 2 ^ 12 → IsLegal (normal_set s)
normal_legal s small =
    let as_told : unpacked (packed s) ≡ normal_set s = packs_back s small in
    rw (← as_told) (told_legal (packed s) (packed_small s small))

past_none : (f : ℕ → Bool) (p : ℕ) → 12 ≤ p → bit (set_where f) p ≡ false
past_none f p far = bit_past (set_where f) p (where_small f) far

pub normal_within : (s : ℕ) → Within (normal_set s) s
unfolding normal_set
normal_within s p there = elim (le_tells 12 p) [
  | inl t ↦ absurd (let none : bit (set_where (λ q. bit s q && holds (form_of s) q)) p ≡ false = past_none (λ q. bit s q && holds (form_of s) q) p t.1 in cc)
  | inr t ↦ (and_parts (bit s p) (holds (form_of s) p) (sym (bit_where (λ q. bit s q && holds (form_of s) q) p t.1) ∙ there)).0
]
