-- `li` loads its number, and the pairs of words lead to their places.
use Rattle.std.proofs.Common.{◌≡◌, ℕ, ◌+◌, ◌-◌, ◌*◌, ◌/◌, ◌%◌, ◌^◌, ◌<◌, ◌≤◌, Bool, true, false, cond, nat_lt, zero, suc, ◌⊎◌, inl, inr, refl, ap, arith}
use Rattle.def_bits.specs.Bits.{extended}
use Rattle.def_object.specs.Object.{upper_part, rest_part, high_piece, low_piece}
use Rattle.def_assembly.specs.Loading.{first_address, AreApart, LeadsTo}

pub pieces_back : (word : ℕ) → word < 2 ^ 32 → (upper_part word * 2 ^ 12 % 2 ^ 32 + rest_part word) % 2 ^ 32 ≡ word
pieces_back word h = by_test (nat_lt (word % 2 ^ 12) (2 ^ 11)) refl
  where
    by_test : (b : Bool) → nat_lt (word % 2 ^ 12) (2 ^ 11) ≡ b → ((word + 2 ^ 11) / 2 ^ 12 % 2 ^ 20 * 2 ^ 12 % 2 ^ 32 + cond b (word % 2 ^ 12) (word % 2 ^ 12 + (2 ^ 32 - 2 ^ 12))) % 2 ^ 32 ≡ word
    by_test true e = grind (arith, e, h)
    by_test false e = grind (arith, e, h)

up : (n : ℕ) → n < 2 ^ 19 → extended 20 n ≡ n
up n h = grind (arith, h)

down : (n : ℕ) → n < 2 ^ 20 → 2 ^ 19 ≤ n → extended 20 n ≡ n + (2 ^ 32 - 2 ^ 20)
down n h k = grind (arith, h, k)

by_sign : (b : Bool) (x y : ℕ) → b ≡ false → cond b x y ≡ y
by_sign b x y e = ap (λ c. cond c x y) e

by_sign_back : (b : Bool) (x y : ℕ) → b ≡ true → cond b x y ≡ x
by_sign_back b x y e = ap (λ c. cond c x y) e

-- forwards, d bytes
forwards : (at to h l f : ℕ) → at ≤ to → AreApart at to → h ≡ (to - at) / 2 ^ 11 % 2 ^ 20 → l ≡ (to - at) % 2 ^ 11 → f ≡ (at + h * 2 ^ 11) % 2 ^ 32 → ((f + l) % 2 ^ 32 ≡ to) × (at ≤ f) × (f ≤ to) × (h < 2 ^ 19)
forwards at to h l f le apart eh el ef = (omega arith, omega arith, omega arith, omega arith)

on : (at to : ℕ) → nat_lt to at ≡ false → at ≤ to → AreApart at to → LeadsTo at to
on at to e le apart =
    let high : high_piece at to ≡ (to - at) / 2 ^ 11 % 2 ^ 20 = by_sign (nat_lt to at) _ _ e in
    let low : low_piece at to ≡ (to - at) % 2 ^ 11 = by_sign (nat_lt to at) _ _ e in
    let small : high_piece at to < 2 ^ 19 = (forwards at to (high_piece at to) (low_piece at to) ((at + high_piece at to * 2 ^ 11) % 2 ^ 32) le apart high low refl).3 in
    let first : first_address at to ≡ (at + high_piece at to * 2 ^ 11) % 2 ^ 32 = ap (λ n. (at + n * 2 ^ 11) % 2 ^ 32) (up (high_piece at to) small) in
    let all = forwards at to (high_piece at to) (low_piece at to) (first_address at to) le apart high low first in
    record {
      there = all.0;
      after = λ _. (all.1, all.2);
      before = λ same. (omega (arith, all.1, same), omega (arith, all.2, same, le));
    }

-- backwards
backwards : (at to h l f : ℕ) → to < at → AreApart at to → h ≡ (2 ^ 20 - (at - to) / 2 ^ 11 % 2 ^ 20) % 2 ^ 20 → l ≡ (2 ^ 32 - (at - to) % 2 ^ 11) % 2 ^ 32 → (e : ℕ) → ((h ≡ 0) × (e ≡ 0)) ⊎ ((0 < h) × (e ≡ h + (2 ^ 32 - 2 ^ 20))) → f ≡ (at + e * 2 ^ 11) % 2 ^ 32 → ((f + l) % 2 ^ 32 ≡ to) × (to ≤ f) × (f ≤ at)
backwards at to h l f lt apart eh el e (inl k) ef = (omega (arith, k.0, k.1), omega (arith, k.0, k.1), omega (arith, k.0, k.1))
backwards at to h l f lt apart eh el e (inr k) ef = (omega (arith, k.0, k.1), omega (arith, k.0, k.1), omega (arith, k.0, k.1))

large : (at to h : ℕ) → to < at → AreApart at to → h ≡ (2 ^ 20 - (at - to) / 2 ^ 11 % 2 ^ 20) % 2 ^ 20 → (h < 2 ^ 20) × (0 < h → 2 ^ 19 ≤ h)
large at to h lt apart e = (omega arith, λ some. omega (arith, some))

sign : (h : ℕ) → h < 2 ^ 20 → (0 < h → 2 ^ 19 ≤ h) → ((h ≡ 0) × (extended 20 h ≡ 0)) ⊎ ((0 < h) × (extended 20 h ≡ h + (2 ^ 32 - 2 ^ 20)))
sign zero lt big = inl (refl, refl)
sign (suc n) lt big = let some : 0 < suc n = omega arith in inr (some, down (suc n) lt (big some))

back : (at to : ℕ) → nat_lt to at ≡ true → to < at → AreApart at to → LeadsTo at to
back at to e lt apart =
    let high : high_piece at to ≡ (2 ^ 20 - (at - to) / 2 ^ 11 % 2 ^ 20) % 2 ^ 20 = by_sign_back (nat_lt to at) _ _ e in
    let low : low_piece at to ≡ (2 ^ 32 - (at - to) % 2 ^ 11) % 2 ^ 32 = by_sign_back (nat_lt to at) _ _ e in
    let size = large at to (high_piece at to) lt apart high in
    let all = backwards at to (high_piece at to) (low_piece at to) (first_address at to) lt apart high low (extended 20 (high_piece at to)) (sign (high_piece at to) size.0 size.1) refl in
    record {
      there = all.0;
      after = λ same. absurd (omega (arith, same, lt));
      before = λ _. (all.1, all.2);
    }

pub leads_to : (at to : ℕ) → AreApart at to → LeadsTo at to
leads_to at to apart = by_test (nat_lt to at) refl
  where
    by_test : (b : Bool) → nat_lt to at ≡ b → LeadsTo at to
    by_test true e = back at to e (grind (arith, e)) apart
    by_test false e = on at to e (grind (arith, e)) apart
