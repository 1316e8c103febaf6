-- Bits and the words that spell them.
use Rattle.std.proofs.Common.{ℕ, zero, suc, ◌≡◌, ◌+◌, ◌*◌, ◌/◌, ◌%◌, ◌^◌, ◌<◌, ◌≤◌, inl, inr, Bool, true, false, cond, nat_eq, Vec, List, length, take, drop, get_or, replicate, refl, sym, ap, ◌∙◌, arith, lit<, subst}
use Rattle.std.proofs.Math.ListN.{set}
use Rattle.std.proofs.Math.Nat.{pow-le-pow_right}
use Rattle.std.specs.Int.{bit_at}
use Rattle.std.specs.Vec.{with_items}
use Rattle.std.proofs.lemmas.Simd.{bit_mask_l, mask_l-lt}
use Rattle.std.proofs.lemmas.Nat.Bits.{same_from_bits_below, bit_at-zero}
use Rattle.std.proofs.lemmas.List.{with_items_is, length-take, length-set, length-replicate, get_or-take, get_or-drop, get_or-set_same, get_or-set_other}
use Rattle.std.proofs.lemmas.List.FromFn.{fill_by_all, length-map-range_with_len}
use Rattle.law_lists.proofs.Tests.{eq_tells}
use Rattle.ct_planes.specs.Bits.{word_of, words_of, flag_in, flags_of, Spells, Kept}

word_bit : (bits : List Bool) (n i : ℕ) → i < 64 → bit_at (word_of bits n) i ≡ cond (get_or bits (64 * n + i) false) 1 0
word_bit bits n i small =
    bit_mask_l (take 64 (drop (64 * n) bits)) i ∙ ap (λ b. cond b 1 0) (get_or-take 64 (drop (64 * n) bits) i false small ∙ get_or-drop (64 * n) bits i false)

word_small : (bits : List Bool) (n : ℕ) → word_of bits n < 2 ^ 64
word_small bits n =
    let ms = take 64 (drop (64 * n) bits) in
    let few : length ms ≤ 64 = omega (arith, length-take 64 (drop (64 * n) bits)) in
    let most : 2 ^ length ms ≤ 2 ^ 64 = pow-le-pow_right {n = 2} (lit< tt) few in
    omega (arith, mask_l-lt ms)

-- the place of a bit in its word
pub quotient : (n i : ℕ) → i < 64 → (64 * n + i) / 64 ≡ n
quotient n i small = omega arith

pub remainder : (n i : ℕ) → i < 64 → (64 * n + i) % 64 ≡ i
remainder n i small = omega arith

-- bit i of word n
pub spelled_bit : (bits : List Bool) (ws : List ℕ) (n i : ℕ) → Spells bits ws → i < 64 → bit_at (get_or ws n 0) i ≡ cond (get_or bits (64 * n + i) false) 1 0
spelled_bit bits ws n i s small =
    let P : ℕ → ℕ → Type 0 = λ q r. bit_at (get_or ws q 0) r ≡ cond (get_or bits (64 * n + i) false) 1 0 in
    subst (λ q. P q i) (quotient n i small) (subst (λ r. P ((64 * n + i) / 64) r) (remainder n i small) (s.bits (64 * n + i)))

pub spelled_is : (bits : List Bool) (ws : List ℕ) → Spells bits ws → ws ≡ words_of bits
spelled_is bits ws s =
    fill_by_all (word_of bits) ws ((length bits + 63) / 64) 0 s.size (λ n lt. same_from_bits_below 64 (get_or ws n 0) (word_of bits n) (s.small n) (word_small bits n) (λ i small. spelled_bit bits ws n i s small ∙ sym (word_bit bits n i small)))

told : (b : Bool) → nat_eq (cond b 1 0) 1 ≡ b
told true = refl
told false = refl

pub flag_is : (bits : List Bool) (ws : List ℕ) (i : ℕ) → Spells bits ws → flag_in ws i ≡ get_or bits i false
flag_is bits ws i s = ap (λ n. nat_eq n 1) (s.bits i) ∙ told (get_or bits i false)

pub flags_back : (bits : List Bool) (ws : List ℕ) → Spells bits ws → flags_of (length bits) ws ≡ bits
flags_back bits ws s = sym (fill_by_all (flag_in ws) bits (length bits) false refl (λ k lt. sym (flag_is bits ws k s)))

-- a list of one value reads as that value everywhere
pub same_everywhere : {A : Type 0} (n k : ℕ) (x : A) → get_or (replicate n x) k x ≡ x
same_everywhere zero k x = refl
same_everywhere (suc n) zero x = refl
same_everywhere (suc n) (suc k) x = same_everywhere n k x

pub spells_new : (n : ℕ) → Spells (replicate n false) (replicate ((n + 63) / 64) 0)
spells_new n = record {
  size = length-replicate ((n + 63) / 64) 0 ∙ ap (λ k. (k + 63) / 64) (sym (length-replicate n false));
  small = λ k. rw (same_everywhere {A = ℕ} ((n + 63) / 64) k 0) (lit< tt);
  bits = λ i. rw (same_everywhere {A = ℕ} ((n + 63) / 64) (i / 64) 0, same_everywhere n i false) (bit_at-zero (i % 64));
}

-- a word written anew, where no bit of another word changes
pub spells_word : (bits cs : List Bool) (ws : List ℕ) (n w : ℕ) → Spells bits ws → length cs ≡ length bits → n < length ws → w < 2 ^ 64 → ((j : ℕ) → j < 64 → bit_at w j ≡ cond (get_or cs (64 * n + j) false) 1 0) → ((k : ℕ) → (k / 64 ≡ n → ⊥) → get_or cs k false ≡ get_or bits k false) → Spells cs (set ws n w)
spells_word bits cs ws n w s same within fits here rest = record {
  size = length-set ws n w ∙ s.size ∙ ap (λ k. (k + 63) / 64) (sym same);
  small = λ k. elim (eq_tells k n) [
    | inl p ↦ subst (λ q. get_or (set ws n w) q 0 < 2 ^ 64) (sym p.1) (rw (get_or-set_same ws n w 0 within) fits)
    | inr p ↦ rw (get_or-set_other ws n k w 0 p.1) (s.small k)
  ];
  bits = λ i. elim (eq_tells (i / 64) n) [
    | inl p ↦ let at : 64 * n + i % 64 ≡ i = omega (arith, p.1) in
        ap (λ q. bit_at (get_or (set ws n w) q 0) (i % 64)) p.1 ∙ ap (λ x. bit_at x (i % 64)) (get_or-set_same ws n w 0 within) ∙ here (i % 64) (omega arith) ∙ ap (λ k. cond (get_or cs k false) 1 0) at
    | inr p ↦ ap (λ x. bit_at x (i % 64)) (get_or-set_other ws n (i / 64) w 0 p.1) ∙ s.bits i ∙ ap (λ b. cond b 1 0) (sym (rest i p.1))
  ];
}

-- one bit written anew
pub spells_put : (bits : List Bool) (ws : List ℕ) (i w : ℕ) (on : Bool) → Spells bits ws → i < length bits → i / 64 < length ws → w < 2 ^ 64 → bit_at w (i % 64) ≡ cond on 1 0 → ((j : ℕ) → j < 64 → (j ≡ i % 64 → ⊥) → bit_at w j ≡ bit_at (get_or ws (i / 64) 0) j) → Spells (set bits i on) (set ws (i / 64) w)
spells_put bits ws i w on s inside within fits same other =
    spells_word bits (set bits i on) ws (i / 64) w s (length-set bits i on) within fits
    (λ j small. elim (eq_tells j (i % 64)) [
      | inl p ↦ let at : i ≡ 64 * (i / 64) + j = omega (arith, p.1) in
          ap (λ q. bit_at w q) p.1 ∙ same ∙ ap (λ b. cond b 1 0) (sym (subst (λ k. get_or (set bits i on) k false ≡ on) at (get_or-set_same bits i on false inside)))
      | inr p ↦ let apart : 64 * (i / 64) + j ≡ i → ⊥ = λ e. p.1 (omega (arith, e)) in
          other j small p.1 ∙ spelled_bit bits ws (i / 64) j s small ∙ ap (λ b. cond b 1 0) (sym (get_or-set_other bits i (64 * (i / 64) + j) on false apart))
    ])
    (λ k far. get_or-set_other bits i k on false (λ e. far (ap (λ q. q / 64) e)))

pub kept : (count : ℕ) (ws : List ℕ) (bits : List Bool) → count < 2 ^ 29 → length bits ≡ count → Spells bits ws → Kept count ws
kept count ws bits small size s =
    let back : flags_of count ws ≡ bits = subst (λ n. flags_of n ws ≡ bits) size (flags_back bits ws s) in
    (small, rw back s)

pub kept_flags : (count : ℕ) (ws : List ℕ) (bits : List Bool) → length bits ≡ count → Spells bits ws → flags_of count ws ≡ bits
kept_flags count ws bits size s = subst (λ n. flags_of n ws ≡ bits) size (flags_back bits ws s)

-- words written anew in their place, that spell these bits
pub written_anew : {Z : Type 0} (count : ℕ) (v : Vec ℕ Z) (ws : List ℕ) (bits : List Bool) → count < 2 ^ 29 → length ws ≡ v.len → length bits ≡ count → Spells bits ws → Kept count (with_items v ws).items × (flags_of count (with_items v ws).items ≡ bits)
written_anew count v ws bits small size many s =
    subst (λ l. Kept count l × (flags_of count l ≡ bits)) (sym (with_items_is v ws size)) (kept count ws bits small many s, kept_flags count ws bits many s)

pub length_flags : (count : ℕ) (ws : List ℕ) → length (flags_of count ws) ≡ count
length_flags count ws = length-map-range_with_len (flag_in ws) 0 count
