-- A list of bits in words of 64.
use Rattle.std.specs.Prelude.{ℕ, ◌≡◌, ◌+◌, ◌*◌, ◌/◌, ◌%◌, ◌^◌, ◌<◌, ◌≤◌, Bool, true, false, cond, nat_eq, List, length, map, take, drop, slice_index_or}
use Rattle.std.specs.List.{range_with_len}
use Rattle.std.specs.Int.{bit_at}
use Rattle.std.specs.Simd.Lanes.{mask_l}

-- word n of the bits, the first of them the lowest; the last word may have fewer than 64
abbrev pub word_of : List Bool → ℕ → ℕ
word_of bits n = mask_l (take 64 (drop (64 * n) bits))

-- as many words as the bits need, and no more
abbrev pub words_of : List Bool → List ℕ
words_of bits = map (word_of bits) (range_with_len 0 ((length bits + 63) / 64))

-- the bit of this number, read from words
abbrev pub flag_in : List ℕ → ℕ → Bool
flag_in words i = nat_eq (bit_at (slice_index_or words (i / 64) 0) (i % 64)) 1

-- so many bits, read from words
abbrev pub flags_of : ℕ → List ℕ → List Bool
flags_of count words = map (flag_in words) (range_with_len 0 count)

-- words spell bits: bit i mod 64 of word i / 64 is bit i, and all that is left over is 0
pub record Spells (flags : List Bool) (words : List ℕ) : Type 0 where
  pub size : length words ≡ (length flags + 63) / 64
  pub small : (n : ℕ) → slice_index_or words n 0 < 2 ^ 64
  pub bits : (i : ℕ)
      → bit_at (slice_index_or words (i / 64) 0) (i % 64) ≡ cond (slice_index_or flags i false) 1 0

-- what a plane of bits keeps of its words
abbrev pub Kept : ℕ → List ℕ → Type 0
Kept count words = (count < 2 ^ 29) × Spells (flags_of count words) words

-- no bit from one number to another is set
abbrev pub Clear : List Bool → ℕ → ℕ → Type 0
Clear flags from to = (k : ℕ) → from ≤ k → k < to → slice_index_or flags k false ≡ false

-- the least bit that is set, at or after a number
pub record IsNextSet (flags : List Bool) (from at : ℕ) : Type 0 where
  pub later : from ≤ at
  pub inside : at < length flags
  pub set : slice_index_or flags at false ≡ true
  pub least : (k : ℕ) → from ≤ k → k < at → slice_index_or flags k false ≡ false
