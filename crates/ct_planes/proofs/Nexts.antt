-- The least bit that is set, in words.
use Rattle.std.proofs.Common.{ℕ, ◌≡◌, ◌+◌, ◌-◌, ◌*◌, ◌/◌, ◌%◌, ◌^◌, ◌<◌, ◌≤◌, inl, inr, Bool, true, false, cond, List, length, get_or, min, refl, sym, ap, ◌∙◌, arith, subst}
use Rattle.std.specs.Int.{bit_at, trailing_zeros, w64}
use Rattle.std.proofs.Math.Nat.{div-div-eq-div-mul, div-le_self}
use Rattle.std.proofs.lemmas.Nat.{pow-add}
use Rattle.std.proofs.lemmas.Nat.Bits.{bit_at-zero, bit_at_above, bit_at-trailing_zeros}
use Rattle.std.proofs.lemmas.List.{get_or_past}
use Rattle.law_lists.proofs.Tests.{lt_tells}
use Rattle.ct_planes.specs.Bits.{Spells, Clear, IsNextSet}
use Rattle.ct_planes.specs.Scan.{ZerosTo}
use Rattle.ct_planes.proofs.Spelling.{spelled_bit}
use Rattle.ct_planes.proofs.Zeros.{differ}

no_bit : (b : Bool) → cond {A = ℕ} b 1 0 ≡ 0 → b ≡ false
no_bit true e = absurd (omega (arith, e))
no_bit false e = refl

one_bit : (b : Bool) → cond {A = ℕ} b 1 0 ≡ 1 → b ≡ true
one_bit true e = refl
one_bit false e = absurd (omega (arith, e))

shifted : (x s i : ℕ) → bit_at (x / 2 ^ s) i ≡ bit_at x (s + i)
shifted x s i = ap (λ n. n % 2) (div-div-eq-div-mul x (2 ^ s) (2 ^ i) ∙ ap (λ n. x / n) (sym (pow-add 2 s i)))

-- words of zeros spell no bit
pub clear_words : (flags : List Bool) (ws : List ℕ) (from to : ℕ) → Spells flags ws → ZerosTo ws from to → Clear flags (64 * from) (64 * to)
clear_words flags ws from to s zeros k le lt =
    no_bit (get_or flags k false) (sym (s.bits k) ∙ ap (λ n. bit_at n (k % 64)) (zeros (k / 64) (omega arith) (omega arith)) ∙ bit_at-zero (k % 64))

pub clear_past : (flags : List Bool) (ws : List ℕ) (from k : ℕ) → Spells flags ws → length ws ≤ from / 64 → from ≤ k → get_or flags k false ≡ false
clear_past flags ws from k s past le =
    no_bit (get_or flags k false) (sym (s.bits k) ∙ ap (λ n. bit_at n (k % 64)) (get_or_past ws (k / 64) 0 (omega arith)) ∙ bit_at-zero (k % 64))

-- bits of what is left of the word in which a number lies
bit_from : (flags : List Bool) (ws : List ℕ) (from i : ℕ) → Spells flags ws → from % 64 + i < 64 → bit_at (get_or ws (from / 64) 0 / 2 ^ (from % 64)) i ≡ cond (get_or flags (from + i) false) 1 0
bit_from flags ws from i s small =
    let at : 64 * (from / 64) + (from % 64 + i) ≡ from + i = omega arith in
    shifted (get_or ws (from / 64) 0) (from % 64) i ∙ spelled_bit flags ws (from / 64) (from % 64 + i) s small ∙ ap (λ k. cond (get_or flags k false) 1 0) at

pub clear_rest : (flags : List Bool) (ws : List ℕ) (from : ℕ) → Spells flags ws → get_or ws (from / 64) 0 / 2 ^ (from % 64) ≡ 0 → Clear flags from (64 * (from / 64 + 1))
clear_rest flags ws from s zero k le lt =
    let at : from + (k - from) ≡ k = omega arith in
    no_bit (get_or flags k false) (ap (λ j. cond (get_or flags j false) 1 0) (sym at) ∙ sym (bit_from flags ws from (k - from) s (omega arith)) ∙ ap (λ x. bit_at x (k - from)) zero ∙ bit_at-zero (k - from))

pub clear_both : (flags : List Bool) (from mid to : ℕ) → Clear flags from mid → Clear flags mid to → Clear flags from to
clear_both flags from mid to first second k le lt = elim (lt_tells k mid) [ inl p ↦ first k le p.1 | inr p ↦ second k p.1 lt ]

inside_from : (flags : List Bool) (at : ℕ) → get_or flags at false ≡ true → at < length flags
inside_from flags at set = elim (lt_tells at (length flags)) [ inl p ↦ p.1 | inr p ↦ absurd (differ (sym set ∙ get_or_past flags at false p.1)) ]

-- the lowest bit of what is left of a word
pub found : (flags : List Bool) (ws : List ℕ) (from : ℕ) → Spells flags ws → 0 < get_or ws (from / 64) 0 / 2 ^ (from % 64) → IsNextSet flags from (from + trailing_zeros w64 (get_or ws (from / 64) 0 / 2 ^ (from % 64)))
found flags ws from s some =
    let w = get_or ws (from / 64) 0 in
    let x = w / 2 ^ (from % 64) in
    let at = trailing_zeros w64 x in
    let less : x ≤ w = div-le_self w (2 ^ (from % 64)) in
    let fits : x < 2 ^ 64 = omega (arith, less, s.small (from / 64)) in
    let lowest = bit_at-trailing_zeros w64 x some fits in
    let inside : from % 64 + at < 64 = elim (lt_tells (from % 64 + at) 64) [
      | inl p ↦ p.1
      | inr p ↦ absurd (omega (arith, bit_at_above w 64 (from % 64 + at) (s.small (from / 64)) p.1, shifted w (from % 64) at, lowest.1))
    ] in
    let set : get_or flags (from + at) false ≡ true = one_bit (get_or flags (from + at) false) (sym (bit_from flags ws from at s inside) ∙ lowest.1) in
    record {
      later = omega arith;
      inside = inside_from flags (from + at) set;
      set = set;
      least = λ k le lt. let there : from + (k - from) ≡ k = omega arith in
          no_bit (get_or flags k false) (ap (λ j. cond (get_or flags j false) 1 0) (sym there) ∙ sym (bit_from flags ws from (k - from) s (omega (arith, inside))) ∙ lowest.2 (k - from) (omega arith));
    }

-- the same at the first bit of a word, with nothing set before it
pub found_later : (flags : List Bool) (ws : List ℕ) (from m : ℕ) → Spells flags ws → from ≤ 64 * m → Clear flags from (64 * m) → 0 < get_or ws m 0 → IsNextSet flags from (64 * m + trailing_zeros w64 (get_or ws m 0))
found_later flags ws from m s le clear some =
    let word : (64 * m) / 64 ≡ m = omega arith in
    let first : (64 * m) % 64 ≡ 0 = omega arith in
    let whole : get_or ws ((64 * m) / 64) 0 / 2 ^ ((64 * m) % 64) ≡ get_or ws m 0 = ap (λ n. get_or ws n 0 / 2 ^ ((64 * m) % 64)) word ∙ ap (λ e. get_or ws m 0 / 2 ^ e) first ∙ omega arith in
    let next = found flags ws (64 * m) s (omega (arith, whole, some)) in
    let at : 64 * m + trailing_zeros w64 (get_or ws ((64 * m) / 64) 0 / 2 ^ ((64 * m) % 64)) ≡ 64 * m + trailing_zeros w64 (get_or ws m 0) = ap (λ x. 64 * m + trailing_zeros w64 x) whole in
    let there : IsNextSet flags (64 * m) (64 * m + trailing_zeros w64 (get_or ws m 0)) = subst (λ k. IsNextSet flags (64 * m) k) at next in
    record {
      later = omega arith;
      inside = there.inside;
      set = there.set;
      least = clear_both flags from (64 * m) (64 * m + trailing_zeros w64 (get_or ws m 0)) clear there.least;
    }

-- the words after the one in which a number lies
pub clear_to : (flags : List Bool) (ws : List ℕ) (from m : ℕ) → Spells flags ws → get_or ws (from / 64) 0 / 2 ^ (from % 64) ≡ 0 → from / 64 + 1 ≤ m → ZerosTo ws (from / 64 + 1) m → Clear flags from (64 * m)
clear_to flags ws from m s zero le zeros =
    clear_both flags from (64 * (from / 64 + 1)) (64 * m) (clear_rest flags ws from s zero) (clear_words flags ws (from / 64 + 1) m s zeros)

-- up to a number, where so many words were looked at
pub clear_below : (flags : List Bool) (ws : List ℕ) (from to end : ℕ) → Spells flags ws → end ≡ min ((to + 63) / 64) (length ws) → Clear flags from (64 * end) → Clear flags from to
clear_below flags ws from to end s is clear k le lt = elim (lt_tells k (64 * end)) [
  | inl p ↦ clear k le p.1
  | inr p ↦ clear_past flags ws k k s (let past = p.1 in omega (arith, past, is, lt)) (omega arith)
]

-- what comes next lies past the number
pub clear_before : (flags : List Bool) (from at to : ℕ) → IsNextSet flags from at → to ≤ at → Clear flags from to
clear_before flags from at to next past k le lt = next.least k le (omega (arith, past, lt))
