-- Fields, signed numbers and least multiples, by division and remainder.
use Rattle.std.specs.Prelude.{ℕ, ℤ, pos, negsuc, ◌+◌, ◌-◌, ◌*◌, ◌/◌, ◌%◌, ◌^◌, ◌≡◌, ◌≤◌, nat_lt, if◌then◌else◌}

-- the bits of a word from bit `low` on, `width` of them
abbrev pub field_of : ℕ → ℕ → ℕ → ℕ
field_of word low width = word / 2 ^ low % 2 ^ width

-- the low bits of a value read in two's complement
abbrev pub signed_of : ℕ → ℕ → ℤ
signed_of value width =
    if nat_lt (value % 2 ^ width) (2 ^ (width - 1)) then pos (value % 2 ^ width)
    else negsuc (2 ^ width - value % 2 ^ width - 1)

-- a field of so many bits as the 32-bit word of the signed number
abbrev pub extended : ℕ → ℕ → ℕ
extended width n = if nat_lt n (2 ^ (width - 1)) then n else n + (2 ^ 32 - 2 ^ width)

-- the least multiple at or above a value
pub record IsLeastMultiple (value to n : ℕ) : Type 0 where
  pub multiple : n % to ≡ 0
  pub above : value ≤ n
  pub least : (k : ℕ) → value ≤ k * to → n ≤ k * to
