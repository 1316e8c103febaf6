-- A set under a mask.
use Rattle.std.proofs.Common.{ℕ, ◌%◌, ◌<◌, ◌≤◌, ◌≡◌, ◌^◌, sym, ◌∙◌, arith, bit_and}
use Rattle.std.proofs.lemmas.Nat.{and_mod, and_le_l}

pub mask_low : (set mask : ℕ) → set < 2 ^ 16 → bit_and set (mask % 2 ^ 16) ≡ bit_and set mask
mask_low set mask small =
    let cut : bit_and set mask % 2 ^ 16 ≡ bit_and (set % 2 ^ 16) (mask % 2 ^ 16) = and_mod set mask 16 in
    let whole : set % 2 ^ 16 ≡ set = omega (arith, small) in
    let le : bit_and set mask ≤ set = and_le_l set mask in
    let fits : bit_and set mask % 2 ^ 16 ≡ bit_and set mask = omega (arith, le, small) in
    let there : bit_and set mask % 2 ^ 16 ≡ bit_and set (mask % 2 ^ 16) = rw whole at cut in
    sym there ∙ fits
