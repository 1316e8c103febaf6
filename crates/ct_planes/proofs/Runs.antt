-- A run of bits written word by word.
use Rattle.std.proofs.Common.{ℕ, ◌≡◌, ◌+◌, ◌-◌, ◌*◌, ◌/◌, ◌^◌, ◌<◌, ◌≤◌, ◌⊎◌, inl, inr, min, max, Bool, true, false, cond, ◌&&◌, nat_le, nat_lt, List, length, get_or, refl, sym, ap, ◌∙◌, arith, lit<}
use Rattle.std.proofs.Math.ListN.{set}
use Rattle.std.proofs.Math.Nat.{pow-le-pow_right}
use Rattle.std.proofs.lemmas.Nat.{pow_pos}
use Rattle.std.specs.Int.{bit_at, bit_not, w64}
use Rattle.std.specs.Int.Bits.{bit_and, bit_or}
use Rattle.std.proofs.lemmas.Nat.Bits.{bit_at_and, bit_at_or, bit_at_not, bit_at-lt, bit_at_mask_inside, bit_at_mask_below, bit_at_mask_above}
use Rattle.law_lists.proofs.Tests.{lt_tells, le_tells}
use Rattle.ct_planes.specs.Bits.{Spells}
use Rattle.ct_planes.specs.Fills.{filled}
use Rattle.ct_planes.proofs.Fillings.{filled_inside, filled_rest, filled_from, length_filled, in_run, out_of_run}
use Rattle.ct_planes.proofs.Spelling.{spells_word, spelled_bit}

-- a number lies in a run, or out of it
pub run_tells : (from to k : ℕ) → ((from ≤ k) × (k < to)) ⊎ ((k < from) ⊎ (to ≤ k))
run_tells from to k = elim (le_tells from k) [ inl p ↦ elim (lt_tells k to) [ inl q ↦ inl (p.1, q.1) | inr q ↦ inr (inr q.1) ] | inr p ↦ inr (inl p.1) ]

mask_bit : (lo hi i : ℕ) → bit_at (2 ^ hi - 2 ^ lo) i ≡ cond (nat_le lo i && nat_lt i hi) 1 0
mask_bit lo hi i = elim (run_tells lo hi i) [
  | inl p ↦ bit_at_mask_inside lo hi i p.0 p.1 ∙ sym (ap (λ b. cond b 1 0) (in_run lo hi i p.0 p.1))
  | inr r ↦ elim r [
    | inl q ↦ bit_at_mask_below lo hi i q ∙ sym (ap (λ b. cond b 1 0) (out_of_run lo hi i (inl q)))
    | inr q ↦ bit_at_mask_above lo hi i q ∙ sym (ap (λ b. cond b 1 0) (out_of_run lo hi i (inr q)))
  ]
]

above_bit : (b : Bool) (n : ℕ) → n < 2 → max n (cond b 1 0) ≡ cond b 1 n
above_bit true n lt = omega arith
above_bit false n lt = omega arith

below_bit : (b : Bool) (n : ℕ) → n < 2 → min n (1 - cond b 1 0) ≡ cond b 0 n
below_bit true n lt = omega arith
below_bit false n lt = omega arith

pub run_set : (word lo hi i : ℕ) → bit_at (bit_or word (2 ^ hi - 2 ^ lo)) i ≡ cond (nat_le lo i && nat_lt i hi) 1 (bit_at word i)
run_set word lo hi i =
    bit_at_or word (2 ^ hi - 2 ^ lo) i ∙ ap (λ n. max (bit_at word i) n) (mask_bit lo hi i) ∙ above_bit (nat_le lo i && nat_lt i hi) (bit_at word i) (bit_at-lt word i)

pub run_clear : (word lo hi i : ℕ) → 2 ^ hi - 2 ^ lo < 2 ^ 64 → i < 64 → bit_at (bit_and word (bit_not w64 (2 ^ hi - 2 ^ lo))) i ≡ cond (nat_le lo i && nat_lt i hi) 0 (bit_at word i)
run_clear word lo hi i fits small =
    bit_at_and word (bit_not w64 (2 ^ hi - 2 ^ lo)) i
    ∙ ap (λ n. min (bit_at word i) n) (bit_at_not w64 (2 ^ hi - 2 ^ lo) i fits small ∙ ap (λ n. 1 - n) (mask_bit lo hi i))
    ∙ below_bit (nat_le lo i && nat_lt i hi) (bit_at word i) (bit_at-lt word i)

-- a run that is empty changes nothing
pub filled_none : {A : Type 0} (from to : ℕ) (x d : A) (xs : List A) → to ≤ from → filled from to x xs ≡ xs
filled_none from to x d xs empty = sym (filled_from from to x d xs xs refl (λ k le lt within. absurd (omega arith)) (λ k out. refl))

-- one word more of the run
pub spells_run : (flags : List Bool) (ws : List ℕ) (from to n w : ℕ) (on : Bool) → Spells (filled from (min to (64 * n)) on flags) ws → to ≤ length flags → n < length ws → w < 2 ^ 64 → ((i : ℕ) → i < 64 → bit_at w i ≡ cond (nat_le (min (from - 64 * n) 64) i && nat_lt i (min (to - 64 * n) 64)) (cond on 1 0) (bit_at (get_or ws n 0) i)) → Spells (filled from (min to (64 * (n + 1))) on flags) (set ws n w)
spells_run flags ws from to n w on s inside within fits bits =
    let old = filled from (min to (64 * n)) on flags in
    let new = filled from (min to (64 * (n + 1))) on flags in
    let lo = min (from - 64 * n) 64 in
    let hi = min (to - 64 * n) 64 in
    spells_word old new ws n w s (length_filled from (min to (64 * (n + 1))) on flags ∙ sym (length_filled from (min to (64 * n)) on flags)) within fits
    (λ j small. elim (run_tells from to (64 * n + j)) [
      | inl p ↦ bits j small ∙ ap (λ b. cond b (cond on 1 0) (bit_at (get_or ws n 0) j)) (in_run lo hi j (omega (arith, p.0)) (omega (arith, p.1)))
          ∙ ap (λ b. cond b 1 0) (sym (filled_inside from (min to (64 * (n + 1))) on flags (64 * n + j) false p.0 (omega (arith, p.1)) (omega (arith, p.1))))
      | inr r ↦ bits j small ∙ ap (λ b. cond b (cond on 1 0) (bit_at (get_or ws n 0) j)) (out_of_run lo hi j (elim r [ inl q ↦ inl (omega (arith, q)) | inr q ↦ inr (omega (arith, q)) ]))
          ∙ spelled_bit old ws n j s small
          ∙ ap (λ b. cond b 1 0) (filled_rest from (min to (64 * n)) on flags (64 * n + j) false (inr (omega arith)) ∙ sym (filled_rest from (min to (64 * (n + 1))) on flags (64 * n + j) false (elim r [ inl q ↦ inl q | inr q ↦ inr (omega (arith, q)) ])))
    ])
    (λ k far. elim (run_tells from (min to (64 * n)) k) [
      | inl p ↦ filled_inside from (min to (64 * (n + 1))) on flags k false p.0 (omega (arith, p.1)) (omega (arith, p.1)) ∙ sym (filled_inside from (min to (64 * n)) on flags k false p.0 p.1 (omega (arith, p.1)))
      | inr r ↦ filled_rest from (min to (64 * (n + 1))) on flags k false (further from to n k far r) ∙ sym (filled_rest from (min to (64 * n)) on flags k false r)
    ])
  where
    further : (from to n k : ℕ) → (k / 64 ≡ n → ⊥) → (k < from) ⊎ (min to (64 * n) ≤ k) → (k < from) ⊎ (min to (64 * (n + 1)) ≤ k)
    further from to n k far (inl q) = inl q
    further from to n k far (inr q) = inr (elim (lt_tells k (64 * (n + 1))) [ inl p ↦ elim (lt_tells k (64 * n)) [ inl h ↦ omega (arith, h.1) | inr h ↦ let same : k / 64 ≡ n = omega (arith, p.1, h.1) in absurd (far same) ] | inr p ↦ omega (arith, p.1) ])

-- the ones below one number and not below another
pub run_is : (from to high low : ℕ) → from ≤ to → high ≡ 2 ^ to - 1 → low ≡ 2 ^ from - 1 → high - low ≡ 2 ^ to - 2 ^ from
run_is from to high low order h l =
    let le : 2 ^ from ≤ 2 ^ to = pow-le-pow_right {n = 2} (lit< tt) order in
    let pos : 0 < 2 ^ from = pow_pos from in
    omega (arith, h, l)
