-- A list of words of eight bytes, byte by byte, the lowest byte first.
use Rattle.std.specs.Prelude.{ℕ, ◌≡◌, ◌*◌, ◌/◌, ◌%◌, ◌^◌, ◌<◌, List, length, map, take, drop, slice_index_or, slice_set}
use Rattle.std.specs.List.{range_with_len}
use Rattle.std.specs.Simd.Lanes.{number_l}
use Rattle.def_memory.specs.Accesses.{byte_of, part_of, with_part}

-- the word of this number, read from bytes
abbrev pub word_in : List ℕ → ℕ → ℕ
word_in bytes k = number_l 256 (take 8 (drop (8 * k) bytes))

abbrev pub words_in : List ℕ → List ℕ
words_in bytes = map (word_in bytes) (range_with_len 0 (length bytes / 8))

-- bytes hold words: eight for each, little-endian
pub record HoldsWords (words bytes : List ℕ) : Type 0 where
  pub size : length bytes ≡ 8 * length words
  pub small : (k : ℕ) → slice_index_or words k 0 < 2 ^ 64
  pub bytes_are : (at : ℕ)
      → slice_index_or bytes at 0 ≡ byte_of (slice_index_or words (at / 8) 0) (at % 8)

-- what a plane of bytes keeps of them
abbrev pub KeptBytes : List ℕ → Type 0
KeptBytes bytes = (length bytes < 2 ^ 32) × HoldsWords (words_in bytes) bytes

-- some bytes of the word that an offset lies in, as a number
abbrev pub part_at : List ℕ → ℕ → ℕ → ℕ
part_at words at width = part_of (slice_index_or words (at / 8) 0) (at % 8) width

-- the low bytes of a value written into the word that an offset lies in
abbrev pub part_written : List ℕ → ℕ → ℕ → ℕ → List ℕ
part_written words at width value =
    slice_set words (at / 8) (with_part (slice_index_or words (at / 8) 0) (at % 8) width value)

-- the bytes of all words, in order
abbrev pub held_byte : List ℕ → ℕ → ℕ
held_byte words at = byte_of (slice_index_or words (at / 8) 0) (at % 8)

abbrev pub held_bytes : List ℕ → List ℕ
held_bytes words = map (held_byte words) (range_with_len 0 (8 * length words))
