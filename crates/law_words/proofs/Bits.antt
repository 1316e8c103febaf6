-- Sets as numbers: one permission of a set, of a set by a test, of what two sets have in common.
use Rattle.std.proofs.Common.{ℕ, zero, suc, ◌+◌, ◌-◌, ◌*◌, ◌^◌, ◌<◌, ◌≤◌, ◌≡◌, ◌≢◌, ◌==◌, Bool, true, false, ◌&&◌, if◌then◌else◌, min, refl, ap, sym, ◌∙◌, inl, inr, arith}
use Rattle.std.specs.Int.{bit_at}
use Rattle.std.specs.Int.RustNames.{bit_and}
use Rattle.std.proofs.lemmas.Nat.{pow_pos, and_le_r}
use Rattle.std.proofs.lemmas.Nat.Bits.{bit_at_and, bit_at-lt, bit_at_cat_low, bit_at_cat_high, bit_at_above, same_from_bits_below, same_from_bits, and_pow}
use Rattle.std.proofs.lemmas.Bool.{eqb-true, and_parts}
use Rattle.std.proofs.Common.{eq-eqb}
use Rattle.std.proofs.Math.Nat.{pow-suc}
use Rattle.law_lists.proofs.Tests.{le_tells, eq_tells, bool_tells}
use Rattle.def_words.specs.Permissions.{bit, gathered, set_where, Within, is_within}

-- a Bool as a bit
pub one_of : Bool → ℕ
one_of b = if b then 1 else 0

pub bit_at_is : (n p : ℕ) (b : Bool) → bit n p ≡ b → bit_at n p ≡ (if b then 1 else 0)
unfolding bit
bit_at_is n p true e = elim (eq_tells (bit_at n p) 1) [ inl t ↦ t.1 | inr t ↦ absurd (let no : false ≡ true = sym t.0 ∙ e in cc) ]
bit_at_is n p false e = elim (eq_tells (bit_at n p) 1) [ inl t ↦ absurd (let no : true ≡ false = sym t.0 ∙ e in cc) | inr t ↦ (let lt : bit_at n p < 2 = bit_at-lt n p in let ne : bit_at n p ≢ 1 = t.1 in omega arith) ]

pub bit_from : (n p : ℕ) (b : Bool) → bit_at n p ≡ (if b then 1 else 0) → bit n p ≡ b
unfolding bit
bit_from n p true e = rw e refl
bit_from n p false e = rw e refl

pub gathered_small : (f : ℕ → Bool) (n : ℕ) → gathered f n < 2 ^ n
gathered_small f zero = omega arith
gathered_small f (suc n) =
    let before : gathered f n < 2 ^ n = gathered_small f n in
    let grows : 2 ^ suc n ≡ 2 ^ n * 2 = pow-suc 2 n in
    elim (bool_tells (f n)) [ inl t ↦ rw (t, grows) (omega (arith, before)) | inr t ↦ rw (t, grows) (omega (arith, before)) ]

pub gathered_at : (f : ℕ → Bool) (n p : ℕ) → p < n → bit_at (gathered f n) p ≡ (if f p then 1 else 0)
gathered_at f zero p low = absurd (omega (arith, low))
gathered_at f (suc n) p low =
    let before : gathered f n < 2 ^ n = gathered_small f n in
    let shape : gathered f n + (if f n then 2 ^ n else 0) ≡ (if f n then 1 else 0) * 2 ^ n + gathered f n = elim (bool_tells (f n)) [ inl t ↦ rw t (omega arith) | inr t ↦ rw t (omega arith) ] in
    rw shape (elim (le_tells n p) [
      | inl t ↦ (
          let same : p ≡ n = omega (arith, t.1, low) in
          let high : bit_at ((if f n then 1 else 0) * 2 ^ n + gathered f n) n ≡ bit_at (if f n then 1 else 0) (n - n) = bit_at_cat_high (if f n then 1 else 0) n (gathered f n) n before (omega arith) in
          let none : n - n ≡ 0 = omega arith in
          rw (same, high, none) (elim (bool_tells (f n)) [ inl u ↦ rw u refl | inr u ↦ rw u refl ]))
      | inr t ↦ bit_at_cat_low (if f n then 1 else 0) n (gathered f n) p t.1 ∙ gathered_at f n p t.1
    ])

pub where_small : (f : ℕ → Bool) → set_where f < 2 ^ 12
unfolding set_where
where_small f = gathered_small f 12

pub bit_where : (f : ℕ → Bool) (p : ℕ) → p < 12 → bit (set_where f) p ≡ f p
unfolding set_where
bit_where f p low = bit_from (gathered f 12) p (f p) (gathered_at f 12 p low)

pub bit_past : (n p : ℕ) → n < 2 ^ 12 → 12 ≤ p → bit n p ≡ false
bit_past n p small far = bit_from n p false (bit_at_above n 12 p small far)

both_bits : (x y : Bool) → min (if x then 1 else 0) (if y then 1 else 0) ≡ (if x && y then 1 else 0)
both_bits true true = refl
both_bits true false = refl
both_bits false true = refl
both_bits false false = refl

pub bit_common : (a b p : ℕ) → bit (bit_and a b) p ≡ (bit a p && bit b p)
bit_common a b p = bit_from (bit_and a b) p (bit a p && bit b p)
    (bit_at_and a b p ∙ (rw (bit_at_is a p (bit a p) refl, bit_at_is b p (bit b p) refl) (both_bits (bit a p) (bit b p))))

pub same_set : (a b : ℕ) → a < 2 ^ 12 → b < 2 ^ 12 → ((p : ℕ) → p < 12 → bit a p ≡ bit b p) → a ≡ b
same_set a b small_a small_b same = same_from_bits_below 12 a b small_a small_b (λ p low. bit_at_is a p (bit b p) (same p low) ∙ sym (bit_at_is b p (bit b p) refl))

-- a mask is the set of the permissions that it has
pub and_where : (n m : ℕ) → m < 2 ^ 12 → bit_and n m ≡ set_where (λ p. bit n p && bit m p)
and_where n m small =
    let below : bit_and n m < 2 ^ 12 = (let le : bit_and n m ≤ m = and_le_r n m in omega (arith, le, small)) in
    same_set (bit_and n m) (set_where (λ p. bit n p && bit m p)) below (where_small (λ p. bit n p && bit m p))
    (λ p low. bit_common n m p ∙ sym (bit_where (λ q. bit n q && bit m q) p low))

pub apart : (a b : ℕ) → a ≢ b → (a == b) ≡ false
apart a b ne = elim (eq_tells a b) [ inl t ↦ absurd (ne t.1) | inr t ↦ t.0 ]

-- the test of one permission
pub test_one : (n p : ℕ) → (bit_and n (2 ^ p) == 2 ^ p) ≡ bit n p
test_one n p =
    let positive : 0 < 2 ^ p = pow_pos p in
    elim (bool_tells (bit n p)) [
      | inl t ↦ rw t (eq-eqb (bit_and n (2 ^ p)) (2 ^ p) (and_pow n p ∙ rw (bit_at_is n p true t) (omega arith)))
      | inr t ↦ rw t (apart (bit_and n (2 ^ p)) (2 ^ p) (λ e. (let none : bit_and n (2 ^ p) ≡ 0 = and_pow n p ∙ rw (bit_at_is n p false t) (omega arith) in omega (arith, none, e, positive))))
    ]

-- ---- inclusion

pub within_is : (a b : ℕ) → is_within a b ≡ true → Within a b
unfolding is_within
within_is a b h p there =
    let same : bit_and a b ≡ a = eqb-true (bit_and a b) a h in
    let has : (bit a p && bit b p) ≡ true = sym (bit_common a b p) ∙ ap (λ n. bit n p) same ∙ there in
    (and_parts (bit a p) (bit b p) has).1

under : (x y : Bool) → (x ≡ true → y ≡ true) → (x && y) ≡ x
under true y h = h refl
under false y h = refl

pub is_within_from : (a b : ℕ) → Within a b → is_within a b ≡ true
unfolding is_within
is_within_from a b h = eq-eqb (bit_and a b) a (same_from_bits (bit_and a b) a (λ p.
    bit_at_is (bit_and a b) p (bit a p) (bit_common a b p ∙ under (bit a p) (bit b p) (h p)) ∙ sym (bit_at_is a p (bit a p) refl)))
