-- Lengths of regions: at least their size, and not above a power of two that the size isn't above.
use Rattle.std.proofs.Common.{ℕ, ◌≡◌, ◌+◌, ◌-◌, ◌*◌, ◌/◌, ◌%◌, ◌^◌, ◌<◌, ◌≤◌, max, sym, ap, ◌∙◌, subst, arith}
use Rattle.std.proofs.lemmas.Nat.{mul-le, pow-add, div-add-mod'}
use Rattle.def_profile.specs.declared.limits.TheConstants.{MOST_BYTES}
use Rattle.def_words.specs.LeastBounds.{ceil_units, exponent_for}
use Rattle.law_words.proofs.Leasts.{ceil_le}
use Rattle.law_words.proofs.Exacts.{no_larger}
use Rattle.def_layout.specs.Placement.{whole_size, region_length}
use Rattle.law_layout.proofs.Placing.{length_above}

whole_unit : (n : ℕ) → 16 ≤ whole_size n
whole_unit n = by ((n + 16 - 1) / 16)
  where
    by : (k : ℕ) → 16 ≤ max 16 (k * 16)
    by k = omega arith

pub unit_fits : (n : ℕ) → 16 ≤ region_length n
unit_fits n = let a = whole_unit n in let b = length_above n in omega (arith, a, b)

exponent_small : (w : ℕ) → w ≤ MOST_BYTES → exponent_for 0 w ≤ 14
exponent_small w le = no_larger 0 w 14 (omega arith) (omega (arith, le))

-- a length doesn't pass a power of two that the size in whole units doesn't
under_power : (w k e : ℕ) → e ≤ k → w ≤ 2 ^ k → ceil_units w e * 2 ^ e ≤ 2 ^ k
under_power w k e le small =
    let sum : (k - e) + e ≡ k = omega (arith, le) in
    let cut : 2 ^ (k - e) * 2 ^ e ≡ 2 ^ k = sym (pow-add 2 (k - e) e) ∙ ap (λ n. 2 ^ n) sum in
    let few : ceil_units w e ≤ 2 ^ (k - e) = ceil_le w (2 ^ (k - e)) e (subst (λ n. w ≤ n) (sym cut) small) in
    subst (λ n. ceil_units w e * 2 ^ e ≤ n) cut (mul-le (ceil_units w e) (2 ^ e) (2 ^ (k - e)) (2 ^ e) few (omega arith))

whole_few : (n : ℕ) → n ≤ MOST_BYTES → whole_size n ≤ MOST_BYTES
whole_few n le = by ((n + 16 - 1) / 16) ((n + 16 - 1) % 16) (div-add-mod' (n + 16 - 1) 16)
  where
    by : (k rest : ℕ) → k * 16 + rest ≡ n + 16 - 1 → max 16 (k * 16) ≤ MOST_BYTES
    by k rest split = omega (arith, split, le)

pub bytes_kept : (n : ℕ) → n ≤ MOST_BYTES → region_length n ≤ MOST_BYTES
bytes_kept n le =
    let w = whole_few n le in
    let e = exponent_small (whole_size n) w in
    under_power (whole_size n) 20 (exponent_for 0 (whole_size n)) (omega (arith, e)) w

stack_few : (n : ℕ) → n ≤ 32752 → whole_size n ≤ 32768
stack_few n le = by ((n + 16 - 1) / 16) ((n + 16 - 1) % 16) (div-add-mod' (n + 16 - 1) 16)
  where
    by : (k rest : ℕ) → k * 16 + rest ≡ n + 16 - 1 → max 16 (k * 16) ≤ 32768
    by k rest split = omega (arith, split, le)

pub stack_kept : (n : ℕ) → n ≤ 32752 → region_length n ≤ 32768
stack_kept n le =
    let w = stack_few n le in
    let e = exponent_small (whole_size n) (omega (arith, w)) in
    under_power (whole_size n) 15 (exponent_for 0 (whole_size n)) (omega (arith, e)) w
