-- Corners of bounds, counted in units, over plain numbers.
use Rattle.std.proofs.Common.{ℕ, ◌+◌, ◌-◌, ◌*◌, ◌/◌, ◌^◌, ◌<◌, ◌≤◌, ◌≡◌, arith, lit<}
use Rattle.std.proofs.lemmas.Nat.{mul-le, pow-add, shr-shr}
use Rattle.std.proofs.Math.Nat.{pow-le-pow_right}
use Rattle.def_profile.specs.declared.bounds.TheConstants.{WIDEST_EXPONENT}
use Rattle.def_words.specs.Authority.{corner_of}

-- a corner fits 64 bits
pub corner_fits : (block unit e : ℕ) → block ≤ 2 ^ 25 → unit < 512 → e ≤ WIDEST_EXPONENT → (block * 512 + unit) * 2 ^ e < 2 ^ 64
corner_fits block unit e few small low =
    let power : 2 ^ e ≤ 2 ^ 24 = pow-le-pow_right (lit< tt) low in
    let scaled : (block * 512 + unit) * 2 ^ e ≤ (2 ^ 35) * 2 ^ 24 = mul-le (block * 512 + unit) (2 ^ e) (2 ^ 35) (2 ^ 24) (omega (arith, few, small)) power in
    omega (arith, scaled)

-- a block of 512 units is 2^(e+9) addresses
pub base_is : (a e field down block : ℕ) → block ≡ a / 2 ^ e / 512 + 2 ^ 24 - down → (block * 512 + field) * 2 ^ e ≡ corner_of a e field 0 down
base_is a e field down block is =
    let units : a / 2 ^ e / 512 ≡ a / 2 ^ (e + 9) = shr-shr a e 9 in
    let span : 2 ^ (e + 9) ≡ 2 ^ e * 512 = pow-add 2 e 9 in
    let moved : a / 2 ^ (e + 9) + 2 ^ 24 + 0 - down ≡ a / 2 ^ (e + 9) + 2 ^ 24 - down = omega arith in
    rw (is, units, moved, span) (omega arith)

pub top_is : (a e field up down block : ℕ) → down ≤ 1 → block ≡ a / 2 ^ e / 512 + 2 ^ 24 - down → ((block + up) * 512 + field) * 2 ^ e ≡ corner_of a e field up down
top_is a e field up down block low is =
    let units : a / 2 ^ e / 512 ≡ a / 2 ^ (e + 9) = shr-shr a e 9 in
    let span : 2 ^ (e + 9) ≡ 2 ^ e * 512 = pow-add 2 e 9 in
    let moved : a / 2 ^ (e + 9) + 2 ^ 24 - down + up ≡ a / 2 ^ (e + 9) + 2 ^ 24 + up - down = omega (arith, low) in
    rw (is, units, moved, span) (omega arith)
