-- Numbers and ways in their ranges, as words.
use Rattle.std.proofs.Common.{◌≡◌, ℕ, ◌+◌, ◌-◌, ◌*◌, ◌%◌, ◌^◌, ◌<◌, ◌≤◌, Bool, true, false, ◌&&◌, cond, nat_lt, nat_le, refl, arith, ◌⊎◌, inl, inr, ◌==◌}
use Rattle.def_instr.specs.Table.{IsSigned, IsOffset}
use Rattle.def_source.specs.declared.parts.Number.{Number}
use Rattle.def_source.specs.declared.reaches.TheConstants.{BRANCH_REACH, JUMP_REACH}
use Rattle.def_source.specs.Source.{within}
use Rattle.def_object.specs.Object.{number_word, is_near, way}

signed_by : (low high m : ℕ) (negative : Bool) → low ≤ 2048 → high ≤ 2047 → cond negative (nat_le m low) (nat_le m high) ≡ true → IsSigned 12 (cond negative ((2 ^ 32 - m % 2 ^ 32) % 2 ^ 32) (m % 2 ^ 32))
signed_by low high m true hl hh e = grind (arith, hl, e)
signed_by low high m false hl hh e = grind (arith, hh, e)

pub signed_word : (n : Number) → within 2048 2047 n ≡ true → IsSigned 12 (number_word n)
signed_word n e = signed_by 2048 2047 n.magnitude n.negative (omega arith) (omega arith) e

small_by : (high m : ℕ) (negative : Bool) → high < 2 ^ 32 → cond negative (nat_le m 0) (nat_le m high) ≡ true → cond negative ((2 ^ 32 - m % 2 ^ 32) % 2 ^ 32) (m % 2 ^ 32) ≤ high
small_by high m true h e = grind (arith, h, e)
small_by high m false h e = grind (arith, h, e)

pub small_word : (n : Number) (high : ℕ) → high < 2 ^ 32 → within 0 high n ≡ true → number_word n ≤ high
small_word n high h e = small_by high n.magnitude n.negative h e

-- an even number of the reach of a branch or a jump
even_by : (reach bits m : ℕ) (negative : Bool) → (reach ≡ BRANCH_REACH) ⊎ (reach ≡ JUMP_REACH) → (cond negative (nat_le m reach) (nat_le m (reach - 2)) && (m % 2 == 0)) ≡ true → (cond negative ((2 ^ 32 - m % 2 ^ 32) % 2 ^ 32) (m % 2 ^ 32) < 2 ^ 32) × ((cond negative ((2 ^ 32 - m % 2 ^ 32) % 2 ^ 32) (m % 2 ^ 32) + reach) % 2 ^ 32 < 2 * reach) × (cond negative ((2 ^ 32 - m % 2 ^ 32) % 2 ^ 32) (m % 2 ^ 32) % 2 ≡ 0)
even_by reach bits m true (inl r) e = (grind (arith, r, e), grind (arith, r, e), grind (arith, r, e))
even_by reach bits m true (inr r) e = (grind (arith, r, e), grind (arith, r, e), grind (arith, r, e))
even_by reach bits m false (inl r) e = (grind (arith, r, e), grind (arith, r, e), grind (arith, r, e))
even_by reach bits m false (inr r) e = (grind (arith, r, e), grind (arith, r, e), grind (arith, r, e))

pub branch_word : (n : Number) → (within BRANCH_REACH (BRANCH_REACH - 2) n && (n.magnitude % 2 == 0)) ≡ true → IsOffset 13 (number_word n)
branch_word n e = let h = even_by BRANCH_REACH 13 n.magnitude n.negative (inl refl) e in ((h.0, h.1), h.2)

pub jump_word : (n : Number) → (within JUMP_REACH (JUMP_REACH - 2) n && (n.magnitude % 2 == 0)) ≡ true → IsOffset 21 (number_word n)
jump_word n e = let h = even_by JUMP_REACH 21 n.magnitude n.negative (inr refl) e in ((h.0, h.1), h.2)

-- a label within a reach
near_by : (reach at to : ℕ) (back : Bool) → (reach ≡ BRANCH_REACH) ⊎ (reach ≡ JUMP_REACH) → nat_lt to at ≡ back → (cond back (nat_le (at - to) reach) (nat_le (to - at) (reach - 2)) && (at % 2 == to % 2)) ≡ true → ((way at to + reach) % 2 ^ 32 < 2 * reach) × (way at to % 2 ≡ 0)
near_by reach at to true (inl r) b e = (grind (arith, r, b, e), grind (arith, r, b, e))
near_by reach at to true (inr r) b e = (grind (arith, r, b, e), grind (arith, r, b, e))
near_by reach at to false (inl r) b e = (grind (arith, r, b, e), grind (arith, r, b, e))
near_by reach at to false (inr r) b e = (grind (arith, r, b, e), grind (arith, r, b, e))

below : (at to : ℕ) → way at to < 2 ^ 32
below at to = omega arith

pub near_branch : (at to : ℕ) → is_near BRANCH_REACH at to ≡ true → IsOffset 13 (way at to)
near_branch at to e = let h = near_by BRANCH_REACH at to (nat_lt to at) (inl refl) refl e in ((below at to, h.0), h.1)

pub near_jump : (at to : ℕ) → is_near JUMP_REACH at to ≡ true → IsOffset 21 (way at to)
near_jump at to e = let h = near_by JUMP_REACH at to (nat_lt to at) (inr refl) refl e in ((below at to, h.0), h.1)
