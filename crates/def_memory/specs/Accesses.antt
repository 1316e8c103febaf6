-- Loads and stores of bytes and of whole granules, at offsets from RAM's base.
use Rattle.std.specs.Prelude.{ℕ, ◌≡◌, ◌+◌, ◌*◌, ◌/◌, ◌%◌, ◌^◌, ◌≤◌, ◌⊎◌, List, slice_set}
use Rattle.def_words.specs.declared.Cap.{Cap}
use Rattle.def_memory.specs.declared.Granule.{Granule}
use Rattle.def_memory.specs.Granules.{plain, granule_at}

-- an access to bytes: width 1, 2 or 4, aligned to its width, inside
pub record IsAccess (size at width : ℕ) : Type 0 where
  pub known : (width ≡ 1) ⊎ (width ≡ 2) ⊎ (width ≡ 4)
  pub aligned : at % width ≡ 0
  pub inside : at + width ≤ size

-- the place of a whole granule
pub record IsPlace (size at : ℕ) : Type 0 where
  pub aligned : at % 8 ≡ 0
  pub inside : at + 8 ≤ size

-- a byte of a word, little-endian: byte 0 is the lowest
abbrev pub byte_of : ℕ → ℕ → ℕ
byte_of word n = word / 2 ^ (8 * n) % 256

-- the byte at an offset in RAM
abbrev pub byte_at : List Granule → ℕ → ℕ
byte_at gs at = byte_of (granule_at gs (at / 8)).cap.word (at % 8)

-- of a word, `width` bytes from byte `from` on, as a number
abbrev pub part_of : ℕ → ℕ → ℕ → ℕ
part_of word from width = word / 2 ^ (8 * from) % 2 ^ (8 * width)

-- the word with the low bytes of a value in their place: the bytes above, the part, the bytes below
abbrev pub with_part : ℕ → ℕ → ℕ → ℕ → ℕ
with_part word from width value =
    word / 2 ^ (8 * (from + width)) * 2 ^ (8 * (from + width))
    + value % 2 ^ (8 * width) * 2 ^ (8 * from) + word % 2 ^ (8 * from)

abbrev pub loaded : List Granule → ℕ → ℕ → ℕ
loaded gs at width = part_of (granule_at gs (at / 8)).cap.word (at % 8) width

-- a store of plain bytes: the granule loses its tag and its shadow, and keeps its mark
abbrev pub stored : List Granule → ℕ → ℕ → ℕ → List Granule
stored gs at width value =
    slice_set gs (at / 8)
    (record {
      cap = plain (with_part (granule_at gs (at / 8)).cap.word (at % 8) width value);
      mark = (granule_at gs (at / 8)).mark;
    })

abbrev pub loaded_cap : List Granule → ℕ → Cap
loaded_cap gs at = (granule_at gs (at / 8)).cap

abbrev pub stored_cap : List Granule → ℕ → Cap → List Granule
stored_cap gs at c =
    slice_set gs (at / 8) (record { cap = c; mark = (granule_at gs (at / 8)).mark })

-- two accesses that share no byte
abbrev pub Disjoint : ℕ → ℕ → ℕ → ℕ → Type 0
Disjoint at width other span = (at + width ≤ other) ⊎ (other + span ≤ at)
